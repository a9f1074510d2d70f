-- The refusal's number is `refusal_number`'s.
use Rattle.reader_answers.proofs.reader.feed_refused.Goals as goal

pub returns : goal.returns
returns c = rw c.refusal_number.ensures
