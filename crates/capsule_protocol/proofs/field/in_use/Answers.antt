-- `run_from` of Steps reads on, `wrong_from` decides.
use Rattle.capsule_protocol.proofs.Steps.{run_from, wrong_from}
use Rattle.capsule_protocol.proofs.field.in_use.Goals as goal

pub returns-in-Wrong : goal.returns-in-Wrong
returns-in-Wrong c = wrong_from _ _ _ _ _ _ c.loop-b.invariant c.in-Some.ensures.cases c.next-reading.ensures c.in-Wrong.is

pub loop-b-preserved : goal.loop-b-preserved
loop-b-preserved c = run_from _ _ _ _ _ _ c.loop-b.invariant c.in-Some.ensures.cases c.next-reading.ensures _ c.run.ensures.value
