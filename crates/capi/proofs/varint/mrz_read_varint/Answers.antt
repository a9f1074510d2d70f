-- What the two calls promise, one after the other.
use Rattle.capi.proofs.varint.mrz_read_varint.Goals as goal

pub returns : goal.returns
returns c = rw (c.varint_answer.ensures, c.read_varint.ensures)
