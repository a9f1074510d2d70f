-- `StreamRecord::closed`, by what `frees` and `with_closed` promise. Assumes nothing.
use Rattle.walks.proofs.Words.{sym, ◌∙◌}
use Rattle.stream_records.proofs.Terms.{closed_side}
use Rattle.stream_records.proofs.record.StreamRecord.closed.Goals as goal

pub returns-then-frees : goal.returns-then-frees
unfolding closed_side
returns-then-frees c = rw (sym c.frees.ensures ∙ c.if-frees.true)

pub returns-else-frees : goal.returns-else-frees
unfolding closed_side
returns-else-frees c = rw (sym c.frees.ensures ∙ c.if-frees.false) c.with_closed.ensures
