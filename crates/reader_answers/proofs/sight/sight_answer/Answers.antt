-- One answer for each place.
use Rattle.reader_answers.proofs.Terms.{sight_answer}
use Rattle.reader_answers.proofs.sight.sight_answer.Goals as goal

pub returns-in-Between : goal.returns-in-Between
unfolding sight_answer
returns-in-Between c = rw (c.bit_of.ensures, c.in-Between.is)

pub returns-in-InType : goal.returns-in-InType
unfolding sight_answer
returns-in-InType c = rw (c.bit_of-in-InType.ensures, c.in-InType.is)

pub returns-in-InLength : goal.returns-in-InLength
unfolding sight_answer
returns-in-InLength c = rw (c.bit_of-in-InLength.ensures, c.in-InLength.is)

pub returns-in-InValue : goal.returns-in-InValue
unfolding sight_answer
returns-in-InValue c = rw (c.buffer_number.ensures, c.bit_of-in-InValue.ensures, c.in-InValue.is)
