-- Short and long forms of a varint. Assumes nothing.
use Rattle.std.specs.Prelude.{Some, None}
use Rattle.short_forms.specs.declared.Varint.{Varint}
use Rattle.short_forms.specs.Short.{varint_of}
use Rattle.walks.proofs.Words.{◌≡◌, refl, sym, ◌∙◌, ℕ, ◌+◌, ◌/◌, ◌≤◌, ◌<◌, arith, List, [], ◌∷◌, length, get_or, take, pow_mono, le-leb, lt-leb}
use Rattle.wire.proofs.Terms.{num, num_from, size_of, value_of, read_varint, read_two, read_short, long_of, read_long, short-one, short_two, short_none, first_long, none_found, ShortExactly, LongExactly}
use Rattle.wire.proofs.Reading.{split, size_of-at, whole_incomplete, whole_same, read_nil, read_whole, read-less, front_one}

-- ---- by the first byte

module _ (b : ℕ) where
  read_two_lem : (c : ℕ) (s : List ℕ) → 64 ≤ b → b < 128 → read_varint (b ∷ c ∷ s) ≡ Some (varint_of (value_of 2 (num (b ∷ c ∷ []))) 2)
  read_two_lem c s l h = let k : size_of b ≡ 2 = sym (size_of-at b 1 (omega arith)) in rw k at (read_whole b (c ∷ s) (rw k (omega arith)))

  four_or_more : 128 ≤ b → 4 ≤ size_of b
  unfolding size_of
  four_or_more h = let q : 2 ≤ b / 64 = omega arith in pow_mono q

  two_at_most : b < 128 → size_of b ≤ 2
  unfolding size_of
  two_at_most h = let q : b / 64 ≤ 1 = omega arith in pow_mono q

  found_two : (c : ℕ) (s : List ℕ) → read_two b (c ∷ s) ≡ Some (varint_of (value_of 2 (num (b ∷ c ∷ []))) 2)
  unfolding read_two value_of num num_from
  found_two c s = let e : 0 + b ≡ b = omega arith in rw e

  cut_two : read_two b [] ≡ None
  unfolding read_two
  cut_two = refl

empty_none : read_short [] ≡ None
unfolding read_short
empty_none = refl

-- a short form is there, or the list ends before the varint does, or a long form is there
view {ℓ} : {X : Type ℓ} (s : List ℕ)
    → ((v k : ℕ) → read_short s ≡ Some (varint_of v k) → read_varint s ≡ Some (varint_of v k) → k ≤ 2 → X)
    → (read_short s ≡ None → read_varint s ≡ None → X)
    → ((v k : ℕ) → read_short s ≡ None → read_varint s ≡ Some (varint_of v k) → 4 ≤ k → X)
    → X
view [] short cut long = cut empty_none read_nil
view {X = X} (b ∷ s) short cut long =
    split 128 b
    (λ h. split (size_of b) (length (b ∷ s))
    (λ l. long (value_of (size_of b) (num (take (size_of b) (b ∷ s)))) (size_of b) (short_none b s h) (read_whole b s l) (four_or_more b h))
    (λ l. cut (short_none b s h) (read-less b s l)))
    (λ h. split 64 b (λ l. two s l h short cut) (λ l. short b 1 (short-one b s l) (front_one (b ∷ s) (omega arith) l) (omega arith)))
  where
    two : (t : List ℕ) → 64 ≤ b → b < 128
        → ((v k : ℕ) → read_short (b ∷ t) ≡ Some (varint_of v k) → read_varint (b ∷ t) ≡ Some (varint_of v k) → k ≤ 2 → X)
        → (read_short (b ∷ t) ≡ None → read_varint (b ∷ t) ≡ None → X)
        → X
    two [] l h short cut = cut (short_two b [] l h ∙ cut_two b) (read-less b [] (rw (← (size_of-at b 1 (omega arith))) (omega arith)))
    two (c ∷ t) l h short cut = short (value_of 2 (num (b ∷ c ∷ []))) 2 (short_two b (c ∷ t) l h ∙ found_two b c t) (read_two_lem b c t l h) (omega arith)

-- ---- the long forms, by what is read

module _ (s : List ℕ) where
  pub long_incomplete : read_varint s ≡ None → read_long s ≡ None
  unfolding read_long long_of
  long_incomplete e = rw e

  long-short : (v k : ℕ) → read_varint s ≡ Some (varint_of v k) → k ≤ 2 → read_long s ≡ None
  unfolding read_long long_of
  long-short v k e h = rw (e, le-leb k 2 h)

  pub long-whole : (v k : ℕ) → read_varint s ≡ Some (varint_of v k) → 4 ≤ k → read_long s ≡ Some (varint_of v k)
  unfolding read_long long_of
  long-whole v k e h = rw (e, lt-leb k 2 (omega arith))

-- what is not short is left to the long forms
pub else_long : (s : List ℕ) → read_short s ≡ None → read_long s ≡ read_varint s
else_long s n = view s (λ v k f w h. none_found n f) (λ m w. long_incomplete s w ∙ sym w) (λ v k m w h. long-whole s v k w h ∙ sym w)

pub from_128 : (s : List ℕ) → 0 < length s → 128 ≤ get_or s 0 0 → read_varint s ≡ read_long s
from_128 s n h = sym (else_long s (sym (first_long s n h)))

pub below_128 : (s : List ℕ) → get_or s 0 0 < 128 → None ≡ read_long s
below_128 [] h = sym (long_incomplete [] read_nil)
below_128 (b ∷ s) h = split (size_of b) (length (b ∷ s)) (λ l. sym (long-short (b ∷ s) (value_of (size_of b) (num (take (size_of b) (b ∷ s)))) (size_of b) (read_whole b s l) (two_at_most b h))) (λ l. sym (long_incomplete (b ∷ s) (read-less b s l)))

-- ---- the claims

pub short_exactly : ShortExactly
short_exactly s v k = (
  λ e. view s (λ v' k' f w h. let same = whole_same (sym f ∙ e) in (rw (← same.0, ← same.1) w, rw (← same.1) h)) (λ n w. none_found n e) (λ v' k' n w h. none_found n e),
  λ p. view s (λ v' k' f w h. let same = whole_same (sym w ∙ p.0) in rw (← same.0, ← same.1) f) (λ n w. whole_incomplete p.0 w) (λ v' k' n w h. absurd (let is_k = (whole_same (sym w ∙ p.0)).1 in let z : ⊥ = omega (arith, p.1) in z)),
)

-- as `read_varint` uses it
pub short_found : (s : List ℕ) (short : Varint) → read_short s ≡ Some short → Some short ≡ read_varint s
short_found s short e = sym ((short_exactly s short.value short.size).0 e).0

pub long_exactly : LongExactly
long_exactly s v k = (
  λ e. view s (λ v' k' f w h. whole_incomplete e (long-short s v' k' w h)) (λ n w. whole_incomplete e (long_incomplete s w)) (λ v' k' n w h. let same = whole_same (sym (long-whole s v' k' w h) ∙ e) in (rw (← same.0, ← same.1) w, rw (← same.1) h)),
  λ p. long-whole s v k p.0 p.1,
)
