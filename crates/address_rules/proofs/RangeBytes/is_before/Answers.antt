-- By the tests, in their order: the laws `before-..` of Judging.
use Rattle.walks.proofs.Words.{le_antisymm, ◌∙◌, sym, ap}
use Rattle.address_rules.proofs.Terms.{range_lent, width_of}
use Rattle.address_rules.proofs.Judging as J
use Rattle.address_rules.proofs.RangeBytes.is_before.Goals as goal

pub returns-then-self-next : goal.returns-then-self-next
unfolding range_lent
returns-then-self-next c = λ a b. J.before_newer (range_lent c.args.self.now) (range_lent c.args.next.now) c.if-self-next.true

pub returns-then-next-self : goal.returns-then-next-self
unfolding range_lent
returns-then-next-self c = λ a b. J.before_older (range_lent c.args.self.now) (range_lent c.args.next.now) c.if-next-self.true

pub returns-then-self-next-2 : goal.returns-then-self-next-2
unfolding range_lent
returns-then-self-next-2 c = λ a b. J.before_more (range_lent c.args.self.now) (range_lent c.args.next.now) (le_antisymm c.if-next-self.false c.if-self-next.false) c.if-self-next-2.true

pub returns-then-next-self-2 : goal.returns-then-next-self-2
unfolding range_lent
returns-then-next-self-2 c = λ a b. J.before-less (range_lent c.args.self.now) (range_lent c.args.next.now) (le_antisymm c.if-next-self.false c.if-self-next.false) c.if-next-self-2.true

pub returns : goal.returns
unfolding range_lent
returns c = λ a b. let e = le_antisymm c.if-next-self.false c.if-self-next.false in
    c.is_below.ensures (a.1 ∙ ap width_of e ∙ sym b.0)
    ∙ J.before_same (range_lent c.args.self.now) (range_lent c.args.next.now) e (le_antisymm c.if-next-self-2.false c.if-self-next-2.false)
