-- By the law of opening: what is decided and stored is what `Tables` says.
use Rattle.std.specs.Prelude.{Result}
use Rattle.refusals.specs.declared.Refusal.{Refusal}
use Rattle.std.specs.Prelude.{ℕ}
use Rattle.walks.proofs.Words.{sym, ap, ◌∙◌}
use Rattle.streams.proofs.Terms.{Plan, stored, table_opened, opened_by_plan}
use Rattle.streams.proofs.table.open_stream.Goals as goal

pub returns : goal.returns
returns c =
    let t = c.args.rows.now in
    let h = opened_by_plan t c.args.id c.args.semantics in
    let e = c.plan_opening-plan.ensures in
    let answer = ap (λ (p : Plan (Result ℕ Refusal)). p.answer) e ∙ h.0 in
    (answer, c.put.ensures ∙ ap (λ (p : Plan (Result ℕ Refusal)). stored t p.store) e ∙ h.1 ∙ ap (table_opened t c.args.id c.args.semantics) (sym answer))
