-- By cases of the kind.
use Rattle.walks.proofs.Words.{sym, ◌∙◌}
use Rattle.fast_paths.proofs.Terms.{is_plain}
use Rattle.fast_paths.proofs.is_plain.Goals as goal

pub returns-in-Datagram : goal.returns-in-Datagram
unfolding is_plain
returns-in-Datagram c = rw (sym c.kind.ensures ∙ c.in-Datagram.is)

pub returns-in-Address : goal.returns-in-Address
unfolding is_plain
returns-in-Address c = rw (sym c.kind.ensures ∙ c.in-Address.is)

pub returns-in-Unknown : goal.returns-in-Unknown
unfolding is_plain
returns-in-Unknown c = rw (sym c.kind.ensures ∙ c.in-Unknown.is)
