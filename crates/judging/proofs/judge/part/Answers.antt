-- `part`, by whether it is delivered: the quarter that was read lies inside the frame. Assumes nothing.
use Rattle.walks.proofs.Words.{arith, sym, ◌∙◌, ◌≤◌, length}
use Rattle.judging.proofs.Terms.{reads}
use Rattle.judging.proofs.Deciding.{part_none, part_short, part_rest}
use Rattle.judging.proofs.judge.part.Goals as goal
use Rattle.judging.proofs.judge.part.Goals.{In-Some}

inside : (c : In-Some) → c.in-Some.read.size ≤ length c.args.frame.now
inside c = (reads _ _ _ (sym c.read_varint.ensures ∙ c.in-Some.is)).fits

pub returns-then-not-is_delivered : goal.returns-then-not-is_delivered
returns-then-not-is_delivered c = part_none c.args.judged c.args.frame.now (sym c.is_delivered.ensures ∙ c.if-not-is_delivered.true)

pub returns-in-None : goal.returns-in-None
returns-in-None c = part_short c.args.judged c.args.frame.now (sym c.read_varint.ensures ∙ c.in-None.is)

pub returns-in-Some : goal.returns-in-Some
returns-in-Some c = part_rest c.args.judged c.args.frame.now (sym c.is_delivered.ensures ∙ c.if-not-is_delivered.false) _ _ (sym c.read_varint.ensures ∙ c.in-Some.is)

pub slice_bounds-result-count : goal.slice_bounds-result-count
slice_bounds-result-count c = omega (arith, inside (goal.at.slice_bounds-result-count c).In-Some)

pub slice_bounds-result-start : goal.slice_bounds-result-start
slice_bounds-result-start c = omega (arith, inside (goal.at.slice_bounds-result-start c).In-Some)
