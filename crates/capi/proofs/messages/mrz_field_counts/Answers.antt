-- What the calls promise, one after the other.
use Rattle.capi.proofs.messages.mrz_field_counts.Goals as goal

pub returns : goal.returns
returns c = rw (c.bit_of.ensures, c.field_counts.ensures, c.message_of.ensures)
