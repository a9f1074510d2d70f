-- What the two calls promise, one after the other.
use Rattle.capi.proofs.one_shot.mrz_list.Goals as goal

pub returns : goal.returns
returns c = rw (c.listing_answer.ensures, c.list.ensures)
