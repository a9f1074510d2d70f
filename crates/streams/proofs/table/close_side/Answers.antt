-- By the law of closing: what is decided and stored is what `Tables` says.
use Rattle.std.specs.Prelude.{Result}
use Rattle.refusals.specs.declared.Refusal.{Refusal}
use Rattle.walks.proofs.Words.{sym, ap, ◌∙◌}
use Rattle.streams.proofs.Terms.{Plan, SideClosed, stored, table_closed, closed_by_plan}
use Rattle.streams.proofs.table.close_side.Goals as goal

pub returns : goal.returns
returns c =
    let t = c.args.rows.now in
    let h = closed_by_plan t c.args.id c.args.side in
    let e = c.plan_closing-plan.ensures in
    let answer = ap (λ (p : Plan (Result SideClosed Refusal)). p.answer) e ∙ h.0 in
    (answer, c.put.ensures ∙ ap (λ (p : Plan (Result SideClosed Refusal)). stored t p.store) e ∙ h.1 ∙ ap (table_closed t c.args.side) (sym answer))
