-- Invariant: the entries left are good exactly if all are; the law `turn` of Judging does an entry, by what `entry_at` finds.
-- the entry is judged by `good_entry` alone
use Rattle.walks.proofs.Words.{◌≡◌, cond, ◌-◌, ◌≤◌, length, drop}
use Rattle.addresses.proofs.Terms.{entries, entry_at, are_good, all_of, good_entry, asks}
use Rattle.addresses.proofs.good_entries.Given as goal

abbrev pub invariant-loop-entry : goal.invariant-loop-entry
invariant-loop-entry l = (l.at ≤ length l.value) × (are_good (all_of (cond l.asking asks good_entry)) (entries entry_at (drop l.at l.value)) ≡ are_good (all_of (cond l.asking asks good_entry)) (entries entry_at l.value))

abbrev pub decreases-loop-entry : goal.decreases-loop-entry
decreases-loop-entry l = length l.value - l.at
