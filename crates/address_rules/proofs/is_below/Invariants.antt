-- Invariant: what is left of both compares as the whole.
use Rattle.address_rules.proofs.Runs.{Left}
use Rattle.address_rules.proofs.is_below.Given as goal

abbrev pub invariant-loop-x : goal.invariant-loop-x
invariant-loop-x l = Left l.x-iterator.a.rest.now l.x-iterator.b.rest.now l.a l.b
