-- One answer for each buffer.
use Rattle.reader_answers.proofs.Terms.{buffer_number}
use Rattle.reader_answers.proofs.sight.buffer_number.Goals as goal

pub returns-in-Neither : goal.returns-in-Neither
unfolding buffer_number
returns-in-Neither c = rw c.in-Neither.is

pub returns-in-Gathering : goal.returns-in-Gathering
unfolding buffer_number
returns-in-Gathering c = rw c.in-Gathering.is

pub returns-in-Addresses : goal.returns-in-Addresses
unfolding buffer_number
returns-in-Addresses c = rw c.in-Addresses.is
