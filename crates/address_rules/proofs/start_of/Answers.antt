-- Each outcome of the tests computes.
use Rattle.walks.proofs.Words.{eq-eqb, ne_eqb}
use Rattle.address_rules.proofs.Terms.{started_at}
use Rattle.address_rules.proofs.start_of.Goals as goal

pub returns-in-None : goal.returns-in-None
unfolding started_at
returns-in-None c = rw c.in-None.is

pub returns-then-range-version : goal.returns-then-range-version
unfolding started_at
returns-then-range-version c = rw (c.in-Some.is, eq-eqb _ _ c.if-range-version.true)

pub returns-else-range-version : goal.returns-else-range-version
unfolding started_at
returns-else-range-version c = rw (c.in-Some.is, ne_eqb _ _ c.if-range-version.false)
