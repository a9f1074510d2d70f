-- What the two calls promise, one after the other.
use Rattle.capi.proofs.messages.mrz_field_in_use.Goals as goal

pub returns : goal.returns
returns c = rw (c.field_answer.ensures, c.read_field.ensures)
