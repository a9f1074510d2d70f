-- What was read is looked at.
use Rattle.walks.proofs.Words.{sym, ap, ◌∙◌}
use Rattle.capi.proofs.Terms.{looked_answer, look_words}
use Rattle.capi.proofs.sight.mrz_reader_look.Goals as goal

pub returns-in-None : goal.returns-in-None
unfolding look_words
returns-in-None c = rw (sym c.load.ensures ∙ c.in-None.is, look_words) c.looked_answer.ensures

pub returns-in-Some : goal.returns-in-Some
unfolding look_words
returns-in-Some c = rw (sym c.load.ensures ∙ c.in-Some.is, look_words) (c.looked_answer-in-Some.ensures ∙ ap looked_answer c.look.ensures)
