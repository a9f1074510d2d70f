-- One answer for each role.
use Rattle.reader_words.proofs.Terms.{reader_mark, role_word}
use Rattle.reader_words.proofs.words.role_word.Goals as goal

pub returns-in-Endpoint : goal.returns-in-Endpoint
unfolding role_word reader_mark
returns-in-Endpoint c = rw c.in-Endpoint.is

pub returns-in-Intermediary : goal.returns-in-Intermediary
unfolding role_word reader_mark
returns-in-Intermediary c = rw c.in-Intermediary.is
