-- The number so far is `num_from` of the bytes passed; `number_turn` of Numbers does one turn.
use Rattle.walks.proofs.Words.{add-zero, add_assoc, arith, ◌+◌, ◌≡◌, get_or}
use Rattle.wire.proofs.Numbers.{number_nil, number_turn, number_bound, number-room}
use Rattle.wire.proofs.partial.Partial.with_bytes.Goals as goal

pub loop-b-init : goal.loop-b-init
loop-b-init c = (number_nil c.args.self.raw c.args.s.now, rw add-zero c.requires.1)

pub overflow_mul-raw : goal.overflow_mul-raw
overflow_mul-raw c = omega (arith, number-room (c.args.self.have + c.loop-b.b-index) c.loop-b.raw c.loop-b.invariant.1 (omega arith))

pub overflow_add-raw : goal.overflow_add-raw
overflow_add-raw c = omega (arith, number-room (c.args.self.have + c.loop-b.b-index) c.loop-b.raw c.loop-b.invariant.1 (omega arith))

pub loop-b-preserved : goal.loop-b-preserved
loop-b-preserved c =
    let is_b : c.from.result ≡ get_or c.args.s.now c.loop-b.b-index 0 = c.from.ensures in (
      rw is_b (number_turn c.args.s.now c.args.self.raw c.loop-b.raw c.loop-b.b-index c.loop-b.invariant.0 (omega arith)),
      rw (← (add_assoc c.args.self.have c.loop-b.b-index 1)) (number_bound (c.args.self.have + c.loop-b.b-index) c.loop-b.raw _ c.loop-b.invariant.1 (omega arith)),
    )
