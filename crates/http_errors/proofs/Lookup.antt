-- Known and unknown numbers in `translated`. Assumes nothing.
use Rattle.std.specs.Prelude.{Ok, Err}
use Rattle.walks.proofs.Words.{◌≡◌, refl, ap, sym, eqb, eqb-true, Bool, true, false, cond, List, [], ◌∷◌, Option, None, Some, ℕ, zero, suc, ◌-◌, ◌≤◌, ◌<◌, le_of_suc-le-suc, not-suc-le-zero, sub-one, length, get_or, slice_get}
use Rattle.http_errors.proofs.Terms.{MalformedAsTruncated, unknown_error_or_version, Action, Error, truncated, malformed, Version, http1, http2, http3, becomes, nth, errors, versions, row_of, answer, translated}

-- ---- the n-th of a list, counted from 1

within : {A : Type 0} (l : List A) (k : ℕ) (d : A) → k < length l → slice_get l k ≡ Some (get_or l k d)
within [] k d h = absurd (not-suc-le-zero h)
within (a ∷ l) zero d h = refl
within (a ∷ l) (suc k) d h = within l k d (le_of_suc-le-suc h)

outside : {A : Type 0} (l : List A) (k : ℕ) → length l ≤ k → slice_get l k ≡ None
outside [] k h = refl
outside (a ∷ l) zero h = absurd (not-suc-le-zero h)
outside (a ∷ l) (suc k) h = outside l k (le_of_suc-le-suc h)

pub nth-known : {A : Type 0} (l : List A) (n : ℕ) (d : A) → 1 ≤ n → n ≤ length l → nth l n ≡ Some (get_or l (n - 1) d)
unfolding nth
nth-known l zero d h t = absurd (not-suc-le-zero h)
nth-known l (suc k) d h t = rw sub-one (within l k d t)

pub nth-below : {A : Type 0} (l : List A) (n : ℕ) → n < 1 → nth l n ≡ None
unfolding nth
nth-below l zero h = refl
nth-below l (suc k) h = absurd (not-suc-le-zero (le_of_suc-le-suc h))

pub nth_past : {A : Type 0} (l : List A) (n : ℕ) → length l < n → nth l n ≡ None
unfolding nth
nth_past l zero h = absurd (not-suc-le-zero h)
nth_past l (suc k) h = outside l k (le_of_suc-le-suc h)

-- ---- translation

-- what the table has at row i and column j, counted from 0
abbrev pub entry : ℕ → ℕ → Option Action
entry i j = becomes (get_or errors i truncated) (get_or versions j http1)

-- a malformed capsule is translated as a truncated stream
pub as_truncated : (v : Version) → becomes truncated v ≡ becomes malformed v
unfolding becomes
as_truncated http1 = refl
as_truncated http2 = refl
as_truncated http3 = refl

in_row : (error : ℕ) (v : Version) → becomes (get_or errors (row_of error) truncated) v ≡ becomes (get_or errors (error - 1) truncated) v
unfolding row_of
in_row error v = go (eqb error 7) refl
  where
    go : (t : Bool) → eqb error 7 ≡ t → becomes (get_or errors (cond t 0 (error - 1)) truncated) v ≡ becomes (get_or errors (error - 1) truncated) v
    go true e = rw (eqb-true error 7 e) (as_truncated v)
    go false e = refl

refuses : (e : Option Error) → Err unknown_error_or_version ≡ answer e None
unfolding answer
refuses None = refl
refuses (Some e) = refl

module _ (error version : ℕ) where
  pub unknown_error : nth errors error ≡ None → Err unknown_error_or_version ≡ translated error version
  unfolding translated answer
  unknown_error e = rw e

  pub unknown_version : nth versions version ≡ None → Err unknown_error_or_version ≡ translated error version
  unfolding translated
  unknown_version e = rw e (refuses (nth errors error))

  pub known : 1 ≤ error → error ≤ 7 → 1 ≤ version → version ≤ 3 → Ok (entry (row_of error) (version - 1)) ≡ translated error version
  unfolding translated answer
  known e₁ e₂ v₁ v₂ = rw (nth-known errors error truncated e₁ e₂, nth-known versions version http1 v₁ v₂) (ap Ok (in_row error (get_or versions (version - 1) http1)))

pub malformed_as_truncated : MalformedAsTruncated
unfolding translated nth
malformed_as_truncated version = go (nth versions version)
  where
    go : (v : Option Version) → answer (Some malformed) v ≡ answer (Some truncated) v
    go None = unfold answer in refl
    go (Some v) = unfold answer in ap Ok (sym (as_truncated v))
