-- The test is the definition's.
use Rattle.walks.proofs.Words.{eq-eqb, ne_eqb}
use Rattle.reader_words.proofs.Terms.{role_of}
use Rattle.reader_words.proofs.numbers.role_of.Goals as goal

pub returns-then-n-eq0 : goal.returns-then-n-eq0
unfolding role_of
returns-then-n-eq0 c = simp (eq-eqb _ _ c.if-n-eq0.true)

pub returns : goal.returns
unfolding role_of
returns c = simp (ne_eqb _ _ c.if-n-eq0.false)
