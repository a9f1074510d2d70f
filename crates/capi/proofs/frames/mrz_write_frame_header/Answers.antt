-- `mrz_write_frame_header`: what `write_frame_header` did, in numbers. Assumes nothing.
use Rattle.walks.proofs.Words.{ap}
use Rattle.capi.proofs.Terms.{wrote_by}
use Rattle.capi.proofs.frames.mrz_write_frame_header.Goals as goal

pub returns : goal.returns
unfolding wrote_by
returns c = rw c.written_answer.ensures (ap wrote_by c.write_frame_header.ensures)
