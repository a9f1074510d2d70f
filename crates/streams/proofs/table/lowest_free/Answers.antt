-- By `Below` when the loop is left.
use Rattle.walks.proofs.Words.{arith, sym, ◌∙◌}
use Rattle.streams.proofs.Lowest.{below_none, below_free}
use Rattle.streams.proofs.table.lowest_free.Goals as goal

pub returns-then-i-n : goal.returns-then-i-n
returns-then-i-n c = below_none _ _ c.loop-i.invariant c.if-i-n.true

pub returns-then-not-is_used : goal.returns-then-not-is_used
returns-then-not-is_used c = below_free _ _ c.loop-i.invariant (omega (arith, c.loop-i.invariant.within)) (sym c.is_used.ensures ∙ c.if-not-is_used.true)
