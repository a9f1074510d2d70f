-- The invariant: a copy of the bytes passed; `more` of Laws does one block.
use Rattle.walks.proofs.Words.{◌-◌, ◌≤◌, ◌≡◌, length, drop, paste}
use Rattle.copying.proofs.blocks.Given as goal

abbrev pub invariant-loop-i : goal.invariant-loop-i
invariant-loop-i l = (l.i ≤ l.n) × (l.dst ≡ paste l.initial.dst l.to (drop l.from l.src) l.i) × (length l.dst ≡ length l.initial.dst)

abbrev pub decreases-loop-i : goal.decreases-loop-i
decreases-loop-i l = l.n - l.i
