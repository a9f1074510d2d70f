-- A list of refusal numbers, each with its condition, and the first one whose condition holds (document 01, "Order").
use Rattle.std.specs.Prelude.{ℕ, ◌≡◌, ◌↔◌, ◌⊎◌, List, [], ◌∷◌}

abbrev pub Order : Type 1
Order = List (ℕ × Type 0)

-- n is the first number whose condition holds
abbrev pub First : ℕ → Order → Type 0
First n [] = ⊥
First n (x ∷ rest) = ((n ≡ x.0) × x.1) ⊎ ((x.1 → ⊥) × First n rest)

-- no condition holds
abbrev pub NoneHolds : Order → Type 0
NoneHolds [] = Unit {0}
NoneHolds (x ∷ rest) = (x.1 → ⊥) × NoneHolds rest

-- a call is refused with n exactly if n is the first in its list whose condition holds, and not refused exactly if none does
pub record Refuses (refused : ℕ → Type 0) (order : Order) : Type 0 where
  pub exactly : (n : ℕ) → refused n ↔ First n order
  pub otherwise : ((n : ℕ) → refused n → ⊥) ↔ NoneHolds order
