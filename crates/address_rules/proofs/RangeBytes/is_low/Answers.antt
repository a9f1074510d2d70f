-- By the protocol: the laws `low_other` and `low_zero` of Judging.
use Rattle.walks.proofs.Words.{◌∙◌, sym, ne_eqb, eq-eqb}
use Rattle.address_rules.proofs.Terms.{range_lent}
use Rattle.address_rules.proofs.RangeBytes.is_low.Goals as goal

pub returns-then-self-eq0 : goal.returns-then-self-eq0
unfolding range_lent
returns-then-self-eq0 c = λ w a b. c.is_below.ensures (a.1 ∙ sym b.0) ∙ rw (eq-eqb c.args.self.now.protocol 0 c.if-self-eq0.true)

pub returns-else-self-eq0 : goal.returns-else-self-eq0
unfolding range_lent
returns-else-self-eq0 c = λ w a b. rw (ne_eqb c.args.self.now.protocol 0 c.if-self-eq0.false)
