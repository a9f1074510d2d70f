-- The loop's invariant: what the grammar still asks for decides the whole value (`run_from` of Steps). At the end `ends_from` decides.
use Rattle.walks.proofs.Words.{◌≡◌, length}
use Rattle.capsule_protocol.proofs.Terms.{every, is_space, rest_of, in_use}
use Rattle.capsule_protocol.proofs.field.in_use.Given as goal

abbrev pub invariant-loop-b : goal.invariant-loop-b
invariant-loop-b l = in_use l.value ≡ rest_of (every is_space) l.reading l.rest

abbrev pub decreases-loop-b : goal.decreases-loop-b
decreases-loop-b l = length l.rest
