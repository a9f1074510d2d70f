-- The loop's invariant is `Standing` of Feedings; `stands_took` does one feeding, `all_listed` the end. The bytes that are not used up fall.
use Rattle.list_program.proofs.Feedings.{Standing}
use Rattle.walks.proofs.Words.{◌-◌}
use Rattle.list_program.proofs.Terms.{lent, lent_of}
use Rattle.list_program.proofs.list_read.Given as goal

abbrev pub invariant-loop-used : goal.invariant-loop-used
invariant-loop-used l =
    let b = l.fn.buffers in
    Standing l.have l.initial.reader l.initial.used l.initial.held l.input (lent_of b) b.block l.reader (lent l.gathering l.addresses l.output) l.used l.held l.block

abbrev pub decreases-loop-used : goal.decreases-loop-used
decreases-loop-used l = l.have - l.used
