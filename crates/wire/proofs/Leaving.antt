-- What a writer leaves. Assumes nothing.
use Rattle.std.specs.Prelude.{Ok, Err}
use Rattle.walks.proofs.Words.{◌≡◌, refl, sym, ℕ, ◌+◌, arith, Bool, true, false, cond, List, length, leb}
use Rattle.wire.proofs.Terms.{Refusal, output_too_short, number_too_large, largest, encode, Writing, refuses, write_at, write_varint, Leaves, VarintLeaves}

no_both {ℓ} : {X : Type ℓ} {r : Refusal} {k : ℕ} → Err r ≡ Ok k → X
no_both e = absurd (let m : ◌≡◌ {A = ℕ} 0 1 = cc in let n : ⊥ = omega arith in n)

module _ (bytes out : List ℕ) (place : ℕ) where
  pub refuses_leaves : (r : Refusal) → Leaves bytes out place (refuses r out)
  unfolding refuses
  refuses_leaves r = record { refused = λ why e. refl; wrote = λ k e. no_both e }

  pub if_leaves : (b : Bool) {x y : Writing} → Leaves bytes out place x → Leaves bytes out place y → Leaves bytes out place (cond b x y)
  if_leaves true p q = p
  if_leaves false p q = q

  pub at_leaves : Leaves bytes out place (write_at bytes out place)
  unfolding write_at
  at_leaves =
      if_leaves (leb (place + length bytes) (length out))
      (record { refused = λ why e. no_both (sym e); wrote = λ k e. (let s : length bytes ≡ k = cc in sym s, refl) })
      (refuses_leaves output_too_short)

pub varint_leaves : VarintLeaves
unfolding write_varint
varint_leaves n out place = if_leaves (encode n) out place (leb n largest) (at_leaves (encode n) out place) (refuses_leaves (encode n) out place number_too_large)
