-- What the two calls promise, one after the other.
use Rattle.capi.proofs.identifiers.mrz_quarter_of.Goals as goal

pub returns : goal.returns
returns c = rw (c.quarter_answer.ensures, c.quarter.ensures)
