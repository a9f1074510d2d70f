-- `ruled`: the error's number is `judged_error`'s. Assumes nothing.
use Rattle.stream_answers.proofs.frames.ruled.Goals as goal

pub returns : goal.returns
returns c = rw (c.error_number.ensures, c.judged_error.ensures)
