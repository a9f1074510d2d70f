-- What the calls promise, one after the other.
use Rattle.capi.proofs.messages.mrz_setting_error.Goals as goal

pub returns : goal.returns
returns c = rw (c.error_number.ensures, c.setting_error.ensures, c.received.ensures)
