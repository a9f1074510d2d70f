-- The plan fits the piece and the buffers (`plan-fits`), and moving its bytes is the definition (`takes`).
use Rattle.walks.proofs.Words.{arith, ◌≤◌, length}
use Rattle.capsule.proofs.Terms.{Fits, plan-fits, held_few}
use Rattle.capsule.proofs.{Moving.takes, Verdicts.Accepts, Verdicts.accepts}
use Rattle.capsule.proofs.reader.Reader.take.Goals as goal
use Rattle.capsule.proofs.reader.Reader.take.Goals.{After-held_of-held, After-plan_of-plan, Start}

-- what is known at the entry, of the held bytes and of the plan
accepted : (c : Start) → Accepts c.args.self (length c.args.piece.now) (length c.args.gathering.now) (length c.args.addresses.now) (length c.args.output.now)
accepted c = accepts _ _ _ _ _ c.requires

held : (c : After-held_of-held) → c.held_of-held.result.have ≤ 7
held c = rw c.held_of-held.ensures (held_few _ _ ((accepts _ _ _ _ _ c.requires)).phase)

fits : (c : After-plan_of-plan) → Fits c.args.self.opening c.args.piece.now c.plan_of-plan.result
fits c = rw c.plan_of-plan.ensures (plan-fits _ _ _ ((accepts _ _ _ _ _ c.requires)).phase)

pub store_bytes-requires : goal.store_bytes-requires
store_bytes-requires c = let f = fits (goal.at.store_bytes-requires c).After-plan_of-plan in (f.starts, f.within, λ s. omega (arith, f.stores s, (accepted (goal.at.store_bytes-requires c).Start).gathers))

pub store_bytes-requires-2 : goal.store_bytes-requires-2
store_bytes-requires-2 c = let f = fits (goal.at.store_bytes-requires-2 c).After-plan_of-plan in (f.starts, f.within, λ s. omega (arith, f.keeps s, (accepted (goal.at.store_bytes-requires-2 c).Start).keeps (f.opts s)))

pub forward_bytes-written-requires : goal.forward_bytes-written-requires
forward_bytes-written-requires c = let f = fits (goal.at.forward_bytes-written-requires c).After-plan_of-plan in let h = held (goal.at.forward_bytes-written-requires c).After-held_of-held in (f.within, omega arith, λ w. omega (arith, f.within, (accepted (goal.at.forward_bytes-written-requires c).Start).forwards (f.forwards w)))

pub returns : goal.returns
returns c = takes _ _ _ _ _ _ _ _ _ _ _ c.held_of-held.ensures c.plan_of-plan.ensures c.store_bytes.ensures c.store_bytes-2.ensures c.forward_bytes-written.ensures c.judge-ended.ensures c.is_last.ensures
