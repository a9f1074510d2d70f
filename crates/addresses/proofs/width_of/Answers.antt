-- Each `return` computes, once the version's tests are put in.
use Rattle.walks.proofs.Words.{arith, ne_eqb}
use Rattle.addresses.proofs.Terms.{width_of}
use Rattle.addresses.proofs.width_of.Goals as goal

pub returns-then-version-eq4 : goal.returns-then-version-eq4
unfolding width_of
returns-then-version-eq4 c = (rw c.if-version-eq4.true, omega arith)

pub returns-then-version-eq6 : goal.returns-then-version-eq6
unfolding width_of
returns-then-version-eq6 c = (rw c.if-version-eq6.true, omega arith)

pub returns-else-version-eq6 : goal.returns-else-version-eq6
unfolding width_of
returns-else-version-eq6 c = (rw (ne_eqb _ 4 c.if-version-eq4.false, ne_eqb _ 6 c.if-version-eq6.false), omega arith)
