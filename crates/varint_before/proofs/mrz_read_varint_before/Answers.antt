-- What the two calls promise, one after the other.
use Rattle.varint_before.proofs.mrz_read_varint_before.Goals as goal

pub returns : goal.returns
returns c = rw (c.varint_answer.ensures, c.read_before.ensures)
