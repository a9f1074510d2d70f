-- The records below i are used.
use Rattle.std.proofs.Common.{◌-◌}
use Rattle.streams.proofs.Lowest.{Below}
use Rattle.streams.proofs.table.lowest_free.Given as goal

abbrev pub invariant-loop-i : goal.invariant-loop-i
invariant-loop-i l = Below l.rows l.i

abbrev pub decreases-loop-i : goal.decreases-loop-i
decreases-loop-i l = l.n - l.i
