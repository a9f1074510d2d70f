-- The two tests are the two conditions of the definition.
use Rattle.walks.proofs.Words.{sym, ◌∙◌}
use Rattle.look.proofs.Terms.{buffer_of}
use Rattle.look.proofs.buffer_of.Goals as goal

pub returns-then-gathers : goal.returns-then-gathers
unfolding buffer_of
returns-then-gathers c = rw (sym c.gathers.ensures ∙ c.if-gathers.true)

pub returns-then-keeps : goal.returns-then-keeps
unfolding buffer_of
returns-then-keeps c = rw (sym c.gathers.ensures ∙ c.if-gathers.false, sym c.keeps.ensures ∙ c.if-keeps.true)

pub returns : goal.returns
unfolding buffer_of
returns c = rw (sym c.gathers.ensures ∙ c.if-gathers.false, sym c.keeps.ensures ∙ c.if-keeps.false)
