-- Invariant: what was seen (Pass), where it stands, and that the pass over the ranges left decides; the law `turn` of Judging does a range.
use Rattle.walks.proofs.Words.{◌≡◌, ◌-◌, ◌≤◌, length, drop}
use Rattle.address_rules.proofs.Terms.{entries, range_at, are_good, good_ranges, Seen, pass, Preceded}
use Rattle.address_rules.proofs.Judging as J
use Rattle.address_rules.proofs.good_ranges.Given as goal

abbrev pub invariant-loop-width : goal.invariant-loop-width
invariant-loop-width l = (l.at ≤ length l.value) × ((st : Seen) × Preceded st.previous l.previous × J.Begun l.value st.previous st.same l.from l.at × J.Ranked l.value st.previous st.same l.from × (are_good (pass st) (entries range_at (drop l.at l.value)) ≡ are_good good_ranges (entries range_at l.value)))

abbrev pub decreases-loop-width : goal.decreases-loop-width
decreases-loop-width l = length l.value - l.at
