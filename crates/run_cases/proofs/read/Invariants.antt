-- The bytes that are left fall.
use Rattle.std.proofs.Common.{length}
use Rattle.run_cases.proofs.read.Given as goal

abbrev pub decreases-loop-rest : goal.decreases-loop-rest
decreases-loop-rest g l = length l.rest
