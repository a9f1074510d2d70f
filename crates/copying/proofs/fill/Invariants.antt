-- The invariant: a copy of the bytes passed; `turn0` of Laws does one turn.
use Rattle.walks.proofs.Words.{◌-◌, ◌≤◌, ◌≡◌, length, drop, paste}
use Rattle.copying.proofs.fill.Given as goal

abbrev pub invariant-loop-i : goal.invariant-loop-i
invariant-loop-i l = (l.i ≤ l.n) × (l.block ≡ paste l.initial.block 0 (drop l.from l.src) l.i) × (length l.block ≡ 16384)

abbrev pub decreases-loop-i : goal.decreases-loop-i
decreases-loop-i l = l.n - l.i
