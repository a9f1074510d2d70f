-- The number so far is `num_from` of the bytes passed; `number_turn` of Numbers does one turn.
use Rattle.walks.proofs.Words.{◌+◌, ◌<◌, ◌^◌, ◌≡◌, take}
use Rattle.wire.proofs.Terms.{num_from}
use Rattle.wire.proofs.partial.Partial.with_bytes.Given as goal

abbrev pub invariant-loop-b : goal.invariant-loop-b
invariant-loop-b l = (l.raw ≡ num_from l.self.raw (take l.b-index l.s)) × (l.raw < 256 ^ (l.self.have + l.b-index))
