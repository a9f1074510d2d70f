-- Where no record has the number, no used one has it.
use Rattle.std.specs.List.{list_any}
use Rattle.walks.proofs.Words.{arith, ◌≡◌, ℕ, sym, ap, ◌∙◌, length, take, take-length}
use Rattle.streams.proofs.Meeting.{meets, none_met}
use Rattle.streams.proofs.table.stands_below.Goals as goal

pub returns-else-met : goal.returns-else-met
returns-else-met c =
    let q = c.args.quarter.0 in
    let u = take c.args.place c.args.rows.now in
    let e : c.loop-r.r-index ≡ length u = omega (arith, c.loop-r-test.false) in
    let all : take c.loop-r.r-index u ≡ u = ap (λ (k : ℕ). take k u) e ∙ take-length u in
    c.if-met.false ∙ sym (none_met q u (ap (list_any (meets q)) (sym all) ∙ sym c.loop-r.invariant ∙ c.if-met.false))
