-- What holds of the rule of ranges: each claim is a type here, and is proved in proofs/Order.antt or proofs/Pairs.antt.
use Rattle.std.specs.Prelude.{◌≡◌, Bool, true, ◌&&◌, List, [], ◌∷◌}
use Rattle.addresses.specs.Addresses.{all_of, Range, good_range, before, in_order, good_ranges}
use Rattle.address_rules.specs.Pass.{nothing, pass}

-- of every two, the earlier first
unfoldable pub every_two : (Range → Range → Bool) → List Range → Bool
every_two good [] = true
every_two good (a ∷ rs) = all_of (good a) rs && every_two good rs

-- order of neighbours is order of every two, if each range's start is at most its end
abbrev pub NeighboursDecide : Type 0
NeighboursDecide = (rs : List Range) → all_of good_range rs ≡ true → in_order rs ≡ every_two before rs

-- one pass that remembers the range before, and the ranges of its version, checks the rule
abbrev pub PassIsRule : Type 0
PassIsRule = (rs : List Range) → good_ranges rs ≡ pass nothing rs
