-- By the one test.
use Rattle.walks.proofs.Words.{arith, eq-eqb, ne_eqb}
use Rattle.http_errors.proofs.Terms.{row_of}
use Rattle.http_errors.proofs.translation.row_of.Goals as goal

pub returns-then-error-eq7 : goal.returns-then-error-eq7
unfolding row_of
returns-then-error-eq7 c = (rw (eq-eqb _ _ c.if-error-eq7.true), omega arith)

pub returns : goal.returns
unfolding row_of
returns c = (rw (ne_eqb _ _ c.if-error-eq7.false), omega arith)
