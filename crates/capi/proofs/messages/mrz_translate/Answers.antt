-- What the two calls promise, one after the other.
use Rattle.capi.proofs.messages.mrz_translate.Goals as goal

pub returns : goal.returns
returns c = rw (c.translation_answer.ensures, c.translate.ensures)
