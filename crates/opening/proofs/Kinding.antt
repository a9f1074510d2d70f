-- What an opening makes of a type, as the code asks. Assumes nothing.
use Rattle.walks.proofs.Words.{◌≡◌, refl, sym, ℕ, ◌≤◌, arith, Bool, true, false, cond, ◌&&◌, ◌||◌, leb, eqb, leb-true, ne_eqb}
use Rattle.opening.proofs.Terms.{parted, Datagram, Address, Unknown, Opening, is_address_type, opted, kind_of}

and-false : (b : Bool) → b && false ≡ false
and-false true = refl
and-false false = refl

module _ (op : Opening) (t : ℕ) where
  address_type : opted op && is_address_type t ≡ true → (1 ≤ t) × (t ≤ 3)
  unfolding is_address_type
  address_type e =
      let a = parted (leb 1 t) (leb t 3) (parted (opted op) (leb 1 t && leb t 3) e).1 in
      (leb-true 1 t a.0, leb-true t 3 a.1)

  datagram : Bool
  datagram = eqb t 0 || (op.draft && eqb t 0xff37a5)

  by_tests : (d a : Bool) → datagram ≡ d → opted op && is_address_type t ≡ a → cond d Datagram (cond a Address Unknown) ≡ kind_of op t
  unfolding kind_of datagram
  by_tests d a e f = λ i. cond (sym e i) Datagram (cond (sym f i) Address Unknown)

  pub kind_address : opted op && is_address_type t ≡ true → Address ≡ kind_of op t
  kind_address e = by_tests false true (unfold datagram in let a = address_type e in let l = a.0 in let h = a.1 in rw (ne_eqb t 0 (λ z. omega arith), ne_eqb t 0xff37a5 (λ z. omega arith)) (and-false op.draft)) e
