-- The state is within its blocks.
use Rattle.walks.proofs.Words.{length}
use Rattle.list_program.specs.Progress.{Within}
use Rattle.list_program.proofs.list_all.Given as goal

abbrev pub invariant-loop : goal.invariant-loop
invariant-loop g l = Within l.l (length l.input) 1200 0 0 65536
