-- The numbers read as a status and flags, then what the two calls promise.
use Rattle.capi.proofs.messages.mrz_response_malformed.Goals as goal

pub returns : goal.returns
returns c = rw (c.bit_of.ensures, c.response_malformed.ensures, c.flag_of-3.ensures, c.flag_of-2.ensures, c.flag_of.ensures, c.status_of.ensures)
