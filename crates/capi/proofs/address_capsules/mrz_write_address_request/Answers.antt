-- The writer's promise, with its answer in numbers.
use Rattle.walks.proofs.Words.{ap}
use Rattle.capi.proofs.Terms.{wrote_by}
use Rattle.capi.proofs.address_capsules.mrz_write_address_request.Goals as goal

pub returns : goal.returns
unfolding wrote_by
returns c = rw c.written_answer.ensures (ap wrote_by c.write_request-written.ensures)
