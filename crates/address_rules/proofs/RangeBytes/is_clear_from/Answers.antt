-- By the tests, in their order: the laws `clear_..` of Judging.
use Rattle.walks.proofs.Words.{◌≡◌, ◌∙◌, sym, ℕ, ltb}
use Rattle.address_rules.proofs.Terms.{num, range_lent, Wide}
use Rattle.address_rules.proofs.Judging as J
use Rattle.address_rules.proofs.RangeBytes.is_clear_from.Goals as goal
use Rattle.address_rules.proofs.RangeBytes.is_clear_from.Goals.{After-is_below}

behind : (c : After-is_below) (w : ℕ) → Wide w c.args.self.now → Wide w c.args.other.now → c.is_below.result ≡ ltb (num c.args.other.now.end.now) (num c.args.self.now.start.now)
behind c w a b = c.is_below.ensures (b.1 ∙ sym a.0)

pub returns-then-other-gt0 : goal.returns-then-other-gt0
unfolding range_lent
returns-then-other-gt0 c = λ w a b. J.clear_other (range_lent c.args.self.now) (range_lent c.args.other.now) c.if-other-gt0.true

pub returns-then-is_below : goal.returns-then-is_below
unfolding range_lent
returns-then-is_below c = λ w a b. c.if-is_below.true ∙ (rw (← behind (goal.at.returns-then-is_below c).After-is_below w a b, c.if-is_below.true) at (J.clear_zero (range_lent c.args.self.now) (range_lent c.args.other.now) c.if-other-gt0.false))

pub returns-else-is_below : goal.returns-else-is_below
unfolding range_lent
returns-else-is_below c = λ w a b.
    c.is_below-else-is_below.ensures (a.1 ∙ sym b.0)
    ∙ (rw (← behind (goal.at.returns-else-is_below c).After-is_below w a b, c.if-is_below.false) at (J.clear_zero (range_lent c.args.self.now) (range_lent c.args.other.now) c.if-other-gt0.false))
