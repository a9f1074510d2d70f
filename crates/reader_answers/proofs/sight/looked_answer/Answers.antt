-- A refusal's number, or what was seen.
use Rattle.reader_answers.proofs.Terms.{looked_answer}
use Rattle.reader_answers.proofs.sight.looked_answer.Goals as goal

pub returns-in-Err : goal.returns-in-Err
unfolding looked_answer
returns-in-Err c = rw (c.refusal_number.ensures, c.in-Err.is)

pub returns-in-Ok : goal.returns-in-Ok
unfolding looked_answer
returns-in-Ok c = rw (c.sight_answer.ensures, c.in-Ok.is)
