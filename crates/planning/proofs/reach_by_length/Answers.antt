-- `ends-within` keeps the value inside the piece.
use Rattle.walks.proofs.Words.{arith, ◌+◌, ◌≤◌, ◌≡◌, sym, ap, ◌∙◌, length, drop, length-drop}
use Rattle.planning.proofs.Terms.{partial, take_varint}
use Rattle.planning.proofs.{Planning.ends-within, Planning.rest_of, Planning.length-ends, Reaching.values}
use Rattle.planning.proofs.reach_by_length.Goals as goal
use Rattle.planning.proofs.reach_by_length.Goals.{After-take, In-Ends}

-- what is taken of the rest of the piece, and where a length ends in it
taken : (c : After-take) → c.take.result ≡ take_varint (partial c.args.have c.args.raw) (drop c.args.at c.args.piece.now)
taken c =
    c.take.ensures ∙ ap (take_varint (partial c.args.have c.args.raw)) (rest_of c.args.piece.now c.args.at)

ends : (c : In-Ends) → c.args.at + c.in-Ends.used ≤ length c.args.piece.now
ends c =
    omega (arith, ends-within _ _ _ _ (sym ((c.take.ensures ∙ ap (take_varint (partial c.args.have c.args.raw)) (rest_of c.args.piece.now c.args.at))) ∙ c.in-Ends.is), length-drop c.args.at c.args.piece.now)

pub overflow_add-result : goal.overflow_add-result
overflow_add-result c = omega (arith, ends (goal.at.overflow_add-result c).In-Ends)

pub returns-in-Ends : goal.returns-in-Ends
returns-in-Ends c = rw c.extent.ensures (values _ _ _ _ _ _ _ (ends (goal.at.returns-in-Ends c).In-Ends) (sym (length-ends _ _ _ _ _ _ _ (sym (taken (goal.at.returns-in-Ends c).After-take) ∙ c.in-Ends.is))))
