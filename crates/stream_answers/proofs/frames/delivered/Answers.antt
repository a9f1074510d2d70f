-- `delivered`: a varint that was read lies in the frame. Assumes nothing.
use Rattle.walks.proofs.Words.{sym, ◌∙◌}
use Rattle.stream_answers.proofs.Terms.{reads}
use Rattle.stream_answers.proofs.frames.delivered.Goals as goal

pub overflow_sub-frame : goal.overflow_sub-frame
overflow_sub-frame c = (reads _ _ _ (sym c.read_varint.ensures ∙ c.in-Some.is)).fits
