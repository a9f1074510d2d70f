-- Runs of bytes, and bits beyond a prefix. Assumes nothing.
use Rattle.walks.proofs.Words.{◌≡◌, refl, sym, ◌∙◌, Bool, true, ◌&&◌, ap, ℕ, zero, suc, ◌+◌, ◌-◌, ◌*◌, ◌/◌, ◌%◌, ◌^◌, ◌≤◌, ◌<◌, mod-eq_of_lt, add-one, arith, List, [], ◌∷◌, length, get_or, take, take_all, drop, drop-cons, pow_pos, pow-lt, eqb, eq-eqb}
use Rattle.std.proofs.lemmas.List.{drop_all, get_or-drop, length-drop}
use Rattle.addresses.proofs.Terms.{num, num_from, num_from_shift, clear_beyond}

pub num_cons : (b : ℕ) (s : List ℕ) → num (b ∷ s) ≡ b * 256 ^ length s + num s
num_cons b s = first ∙ num_from_shift b s
  where
    first : num (b ∷ s) ≡ num_from b s
    first = unfold num num_from in (let e : 0 * 256 + b ≡ b = omega arith in rw e)

-- ---- bits beyond a prefix

pub clear_turn : (a : List ℕ) (p i : ℕ) (t : Bool) → i < length a → t ≡ eqb (get_or a i 0 % 2 ^ (8 - p)) 0 → t && clear_beyond (p - 8) (drop (i + 1) a) ≡ clear_beyond p (drop i a)
clear_turn a p i t l e = rw (add-one i, drop-cons a i 0 l, e) (unfold clear_beyond in refl)

pub clear_end : (a : List ℕ) (p i : ℕ) → length a ≤ i → true ≡ clear_beyond p (drop i a)
clear_end a p i l = rw (drop_all i a l) (unfold clear_beyond in refl)

pub clear_whole : (b p : ℕ) → 8 ≤ p → true ≡ eqb (b % 2 ^ (8 - p)) 0
clear_whole b p h = let e : 8 - p ≡ 0 = omega arith in rw e (sym (eq-eqb (b % 1) 0 (omega arith)))

-- whole bytes of the prefix say nothing
clear_beyond_whole : (a : List ℕ) (p k : ℕ) → 8 * k ≤ p → clear_beyond p a ≡ clear_beyond (p - 8 * k) (drop k a)
clear_beyond_whole a p zero h = let e : p - 8 * 0 ≡ p = omega arith in rw e
clear_beyond_whole [] p (suc k) h = unfold clear_beyond in refl
clear_beyond_whole (b ∷ a) p (suc k) h =
    let e : p - 8 - 8 * k ≡ p - 8 * suc k = omega arith in
    let f : clear_beyond p (b ∷ a) ≡ clear_beyond (p - 8) a = (unfold clear_beyond in rw (← (clear_whole b p (omega arith)))) in
    f
    ∙ clear_beyond_whole a (p - 8) k (omega arith)
    ∙ ap (λ (n : ℕ). clear_beyond n (drop k a)) e

-- the bytes behind the one that the prefix ends in
pub clear_at : (a : List ℕ) (p : ℕ) (t : Bool) → p / 8 < length a → t ≡ eqb (get_or a (p / 8) 0 % 2 ^ (8 - p % 8)) 0 → t && clear_beyond 0 (drop (p / 8 + 1) a) ≡ clear_beyond p a
clear_at a p t l e =
    let m : p - 8 * (p / 8) ≡ p % 8 = omega arith in
    let z : p % 8 - 8 ≡ 0 = omega arith in
    rw z at (clear_turn a (p % 8) (p / 8) t l e) ∙ ap (λ (n : ℕ). clear_beyond n (drop (p / 8) a)) (sym m) ∙ sym (clear_beyond_whole a p (p / 8) (omega arith))

pub clear_behind : (a : List ℕ) (p : ℕ) → length a ≤ p / 8 → true ≡ clear_beyond p a
clear_behind a p l = clear_end a (p - 8 * (p / 8)) (p / 8) l ∙ sym (clear_beyond_whole a p (p / 8) (omega arith))

-- a byte behind the prefix, of the part of the address from n on
module _ (a : List ℕ) (n : ℕ) (l : n ≤ length a) where
  pub part_is : take (length a - n) (drop n a) ≡ drop n a
  part_is = take_all (length a - n) (drop n a) (omega (arith, length-drop n a))

  pub clear_rest : (i : ℕ) (t : Bool) → ((j : ℕ) → get_or a j 0 < 256) → let s = take (length a - n) (drop n a) in i < length s → t ≡ eqb (get_or s i 0) 0 → t && clear_beyond 0 (drop (i + 1) s) ≡ clear_beyond 0 (drop i s)
  clear_rest i t f h e =
      let s : List ℕ = take (length a - n) (drop n a) in
      let b : get_or s i 0 ≡ get_or a (n + i) 0 = ap (λ (x : List ℕ). get_or x i 0) part_is ∙ get_or-drop n a i 0 in
      let m : get_or s i 0 % 256 ≡ get_or s i 0 = mod-eq_of_lt (rw b (f (n + i))) in
      clear_turn s 0 i t h (e ∙ ap (λ (x : ℕ). eqb x 0) (sym m))

pub shift_is : (k : ℕ) → k ≤ 8 → (1 * 2 ^ k) % 2 ^ 64 ≡ 2 ^ k
shift_is k h =
    let l : k < 64 = omega arith in
    let e : 1 * 2 ^ k ≡ 2 ^ k = omega arith in
    rw (e, mod-eq_of_lt (pow-lt l))

pub shift_pos : (k : ℕ) → k ≤ 8 → 0 < (1 * 2 ^ k) % 2 ^ 64
shift_pos k h = rw (shift_is k h) (pow_pos k)
