-- One answer for each buffer.
use Rattle.look.proofs.Terms.{stored_in}
use Rattle.look.proofs.stored_in.Goals as goal

pub returns-in-Neither : goal.returns-in-Neither
unfolding stored_in
returns-in-Neither c = rw c.in-Neither.is

pub returns-in-Gathering : goal.returns-in-Gathering
unfolding stored_in
returns-in-Gathering c = rw c.in-Gathering.is

pub returns-in-Addresses : goal.returns-in-Addresses
unfolding stored_in
returns-in-Addresses c = rw c.in-Addresses.is
