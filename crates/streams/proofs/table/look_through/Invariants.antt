-- Up to the place that `occupied` answers: `known` is what the records below i say, and `seen` marks their buckets.
use Rattle.std.proofs.Common.{length}
use Rattle.streams.proofs.Terms.{Occupied, Surveyed, fitting}
use Rattle.streams.proofs.table.look_through.Given as goal

abbrev pub invariant-loop-i : goal.invariant-loop-i
invariant-loop-i l = (o : Occupied l.rows (fitting (length l.rows)) l.end) × Surveyed l.quarter.0 l.rows l.end o l.seen l.known l.i
