-- By what ended; a report's numbers are `fed_report`'s.
use Rattle.reader_answers.proofs.Terms.{fed_took}
use Rattle.reader_answers.proofs.reader.fed_took.Goals as goal

pub returns-in-None : goal.returns-in-None
unfolding fed_took
returns-in-None c = rw c.in-None.is

pub returns-in-Some : goal.returns-in-Some
unfolding fed_took
returns-in-Some c = rw c.in-Some.is c.fed_report.ensures
