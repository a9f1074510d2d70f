-- What the two calls promise, one after the other.
use Rattle.capi.proofs.identifiers.mrz_stream_id_of.Goals as goal

pub returns : goal.returns
returns c = rw (c.stream_answer.ensures, c.stream.ensures)
