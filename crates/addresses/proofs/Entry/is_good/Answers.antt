-- A prefix longer than the address: the law `entry-long` of Judging; otherwise `entry-short`.
use Rattle.walks.proofs.Words.{arith, ◌≡◌, ◌∙◌, lt-leb}
use Rattle.addresses.proofs.Terms.{entry_lent}
use Rattle.addresses.proofs.Judging as J
use Rattle.addresses.proofs.Entry.is_good.Goals as goal

pub returns-then-prefix-self : goal.returns-then-prefix-self
unfolding entry_lent
returns-then-prefix-self c =
    let f : c.from-prefix.result ≡ c.args.self.now.prefix = c.from-prefix.ensures in
    rw f at c.clear_beyond.ensures ∙ J.entry-short (entry_lent c.args.self.now) _ c.requires.0 (omega arith)

pub returns-else-prefix-self : goal.returns-else-prefix-self
unfolding entry_lent
returns-else-prefix-self c =
    let f : c.from-prefix.result ≡ c.args.self.now.prefix = c.from-prefix.ensures in
    lt-leb _ _ c.if-prefix-self.false ∙ J.entry-long (entry_lent c.args.self.now) _ c.requires.0 (omega arith)
