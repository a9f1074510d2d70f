-- The test is the definition's; the status is read by `status_of`.
use Rattle.walks.proofs.Words.{sym, ◌∙◌}
use Rattle.answers.proofs.Terms.{message_of}
use Rattle.answers.proofs.messages.message_of.Goals as goal

pub returns-then-flag_of : goal.returns-then-flag_of
unfolding message_of
returns-then-flag_of c = rw (sym c.flag_of.ensures ∙ c.if-flag_of.true, c.status_of.ensures)

pub returns : goal.returns
unfolding message_of
returns c = rw (sym c.flag_of.ensures ∙ c.if-flag_of.false)
