-- The invariant: a copy of the bytes passed; `turn` of Laws does one turn.
use Rattle.walks.proofs.Words.{◌-◌, ◌≤◌, ◌≡◌, length, paste}
use Rattle.copying.proofs.spill.Given as goal

abbrev pub invariant-loop-i : goal.invariant-loop-i
invariant-loop-i l = (l.i ≤ l.n) × (l.dst ≡ paste l.initial.dst l.to l.block l.i) × (length l.dst ≡ length l.initial.dst)

abbrev pub decreases-loop-i : goal.decreases-loop-i
decreases-loop-i l = l.n - l.i
