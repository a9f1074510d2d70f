-- The test is the definition's.
use Rattle.walks.proofs.Words.{eq-eqb, ne_eqb}
use Rattle.answers.proofs.Terms.{side_of}
use Rattle.answers.proofs.numbers.side_of.Goals as goal

pub returns-then-n-eq0 : goal.returns-then-n-eq0
unfolding side_of
returns-then-n-eq0 c = simp (eq-eqb _ _ c.if-n-eq0.true)

pub returns : goal.returns
unfolding side_of
returns c = simp (ne_eqb _ _ c.if-n-eq0.false)
