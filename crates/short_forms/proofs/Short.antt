-- The short forms, by the first byte. Assumes nothing.
use Rattle.std.specs.Prelude.{Option, Some, None}
use Rattle.short_forms.specs.declared.Varint.{Varint}
use Rattle.short_forms.specs.Short.{varint_of}
use Rattle.walks.proofs.Words.{◌≡◌, refl, sym, ℕ, ◌+◌, ◌*◌, ◌%◌, ◌≤◌, ◌<◌, arith, List, [], ◌∷◌, length, get_or, lt-ltb, le-ltb}
use Rattle.short_forms.proofs.Terms.{read_two, read_short, TwoBytesOnly, CasesHold, zero_one}

pub none_found {ℓ} : {X : Type ℓ} {f : (Option Varint)} {v k : ℕ} → f ≡ None → f ≡ Some (varint_of v k) → X
none_found p q = zero_one (cc)

module _ (b : ℕ) (s : List ℕ) where
  pub short-one : b < 64 → read_short (b ∷ s) ≡ Some (varint_of b 1)
  unfolding read_short
  short-one h = rw (lt-ltb b 64 h)

  pub short_two : 64 ≤ b → b < 128 → read_short (b ∷ s) ≡ read_two b s
  unfolding read_short
  short_two l h = rw (le-ltb b 64 l, lt-ltb b 128 h)

  pub short_none : 128 ≤ b → read_short (b ∷ s) ≡ None
  unfolding read_short
  short_none h = rw (le-ltb b 64 (omega arith), le-ltb b 128 h)

-- ---- as the code reads

pub first_none : (s : List ℕ) → length s ≡ 0 → None ≡ read_short s
unfolding read_short
first_none [] e = refl
first_none (b ∷ s) e = absurd (let z : ⊥ = omega arith in z)

pub first_one : (s : List ℕ) → 0 < length s → get_or s 0 0 < 64 → Some (varint_of (get_or s 0 0) 1) ≡ read_short s
first_one [] n h = absurd (let z : ⊥ = omega arith in z)
first_one (b ∷ s) n h = sym (short-one b s h)

pub first_long : (s : List ℕ) → 0 < length s → 128 ≤ get_or s 0 0 → None ≡ read_short s
first_long [] n h = absurd (let z : ⊥ = omega arith in z)
first_long (b ∷ s) n h = sym (short_none b s h)

module _ (s : List ℕ) (l : 64 ≤ get_or s 0 0) (h : get_or s 0 0 < 128) where
  pub first_alone : length s ≡ 1 → None ≡ read_short s
  unfolding read_two
  first_alone e = go s l h e
    where
      go : (t : List ℕ) → 64 ≤ get_or t 0 0 → get_or t 0 0 < 128 → length t ≡ 1 → None ≡ read_short t
      go [] l h e = absurd (let z : ⊥ = omega arith in z)
      go (b ∷ []) l h e = sym (short_two b [] l h)
      go (b ∷ c ∷ t) l h e = absurd (let z : ⊥ = omega arith in z)

  pub first_two : 2 ≤ length s → Some (varint_of ((get_or s 0 0 * 256 + get_or s 1 0) % 16384) 2) ≡ read_short s
  unfolding read_two
  first_two e = go s l h e
    where
      go : (t : List ℕ) → 64 ≤ get_or t 0 0 → get_or t 0 0 < 128 → 2 ≤ length t → Some (varint_of ((get_or t 0 0 * 256 + get_or t 1 0) % 16384) 2) ≡ read_short t
      go [] l h e = absurd (let z : ⊥ = omega arith in z)
      go (b ∷ []) l h e = absurd (let z : ⊥ = omega arith in z)
      go (b ∷ c ∷ t) l h e = sym (short_two b (c ∷ t) l h)

-- ---- the claims

pub two_bytes_only : TwoBytesOnly
unfolding read_short read_two
two_bytes_only [] = refl
two_bytes_only (b ∷ []) = refl
two_bytes_only (b ∷ c ∷ s) = refl

pub cases_hold : CasesHold
unfolding read_short read_two
cases_hold = refl
