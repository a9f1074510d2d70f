-- The quarter that was read lies inside the frame. Assumes nothing.
use Rattle.walks.proofs.Words.{sym, ◌∙◌}
use Rattle.judging.proofs.Terms.{reads}
use Rattle.judging.proofs.judge.judge_by.Goals as goal

pub overflow_sub-rest : goal.overflow_sub-rest
overflow_sub-rest c = (reads _ _ _ (sym c.read_varint.ensures ∙ c.in-Some.is)).fits
