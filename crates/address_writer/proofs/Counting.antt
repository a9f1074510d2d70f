-- The records of a row, one after another. Assumes nothing.
use Rattle.walks.proofs.Words.{◌≡◌, refl, ap, ◌∙◌, ℕ, zero, suc, ◌+◌, ◌*◌, ◌/◌, ◌<◌, arith, List, length, drop, slice_get, drop-drop, Some, eq-eqb, eqb-true}
use native.Mathlib.Nat.{mul-suc}
use Rattle.address_writer.proofs.Terms.{entry_of, range_of, first_of, all_in, is_whole, entries_in, ranges_in, WholeExactly, EveryEntry}

pub whole_exactly : WholeExactly
unfolding is_whole
whole_exactly size row = (eqb-true _ 0, eq-eqb _ 0)

module _ {A : Type 0} (size : ℕ) (entry : List ℕ → A) where
  counted : (n : ℕ) (row : List ℕ) → length (first_of size entry n row) ≡ n
  unfolding first_of
  counted zero row = refl
  counted (suc n) row = ap suc (counted n (drop size row))

  kth : (n k : ℕ) (row : List ℕ) → k < n → slice_get (first_of size entry n row) k ≡ Some (entry (drop (size * k) row))
  unfolding first_of
  kth zero k row h = absurd (let z : ⊥ = omega arith in z)
  kth (suc n) zero row h = let e : ◌≡◌ {A = ℕ} 0 (size * 0) = omega arith in ap (λ (m : ℕ). Some (entry (drop m row))) e
  kth (suc n) (suc k) row h =
      let e : size + size * k ≡ size * suc k = omega (arith, mul-suc size k) in
      kth n k (drop size row) (omega arith) ∙ ap (λ (l : List ℕ). Some (entry l)) (drop-drop (size * k) size row ∙ ap (λ (m : ℕ). drop m row) e)

pub every-entry : EveryEntry
unfolding entries_in ranges_in all_in
every-entry = (
  λ row. (counted 32 entry_of (length row / 32) row, λ k h. kth 32 entry_of (length row / 32) k row h),
  λ row. (counted 34 range_of (length row / 34) row, λ k h. kth 34 range_of (length row / 34) k row h),
)
