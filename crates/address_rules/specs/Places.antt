-- For the proofs alone: where ranges of one version stand in a value, one after another.
use Rattle.std.specs.Prelude.{ℕ, ◌+◌, ◌*◌, ◌≤◌, ◌<◌, ◌≡◌, cond, eqb, List, [], ◌∷◌, length, take, drop, get_or}
use Rattle.std.specs.Prelude.{Option, None, Some}
use Rattle.wire.specs.Bytes.{Bytes, num}
use Rattle.address_rules.specs.declared.RangeBytes.{RangeBytes}
use Rattle.addresses.specs.Addresses.{width_of, Range}
use Rattle.addresses.specs.Places.{range_in}

-- ranges of width w stand one after another from `from` to `at`
abbrev pub Stands : List ℕ → ℕ → ℕ → List Range → ℕ → Type 0
Stands v w from [] at = from ≡ at
Stands v w from (s ∷ ss) at = (s ≡ range_in v from w) × Stands v w (from + (w + w + 2)) ss at

-- the range that is lent
unfoldable pub range_lent : RangeBytes → Range
range_lent r = record { version = r.version; start = num r.start.now; end = num r.end.now; protocol = r.protocol }

-- its addresses have w bytes each
abbrev pub Wide : ℕ → RangeBytes → Type 0
Wide w r = (length r.start.now ≡ w) × (length r.end.now ≡ w) × Bytes r.start.now × Bytes r.end.now

-- it is lent from the value at `at`
abbrev pub Lent : List ℕ → ℕ → ℕ → RangeBytes → Type 0
Lent v at w r =
    (r.version ≡ get_or v at 0)
    × (r.start.now ≡ take w (drop (at + 1) v))
    × (r.end.now ≡ take w (drop (at + 1 + w) v))
    × (r.protocol ≡ get_or v (at + 1 + w + w) 0)

-- the range before is the one that is lent
abbrev pub Preceded : Option Range → Option RangeBytes → Type 0
Preceded None None = Unit {0}
Preceded (Some p) (Some r) = (p ≡ range_lent r) × Wide (width_of r.version) r
Preceded None (Some r) = ⊥
Preceded (Some p) None = ⊥

-- where the ranges of a version start, of which the one at `at` is the first or those before it start at `from`
unfoldable pub started_at : Option RangeBytes → ℕ → ℕ → ℕ → ℕ
started_at None version from at = from
started_at (Some r) version from at = cond (eqb r.version version) from at

-- the i-th of the ranges of width w that stand from `from` on
abbrev pub nth : List ℕ → ℕ → ℕ → ℕ → Range
nth v w from i = range_in v (from + i * (w + w + 2)) w

-- a range for all protocols stands behind ranges for all protocols alone, and their addresses are below its own
abbrev pub Later : Range → Range → Type 0
Later s t = t.protocol ≡ 0 → (s.protocol ≡ 0) × (s.end < t.start)

-- so it is with the first n of them
pub record Rising (v : List ℕ) (w from n : ℕ) : Type 0 where
  pub rises : (i j : ℕ) → i < j → j < n → Later (nth v w from i) (nth v w from j)
  pub proper : (i : ℕ) → i < n → (nth v w from i).start ≤ (nth v w from i).end
