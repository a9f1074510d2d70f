-- By the row's length: the laws `surplus`, `whole_row` and `routes` of Writing.
use Rattle.walks.proofs.Words.{arith, ◌∙◌, true, true≢false}
use Rattle.address_writer.proofs.Terms.{gathers, value_in}
use Rattle.address_writer.proofs.Writing.{surplus, whole_row, routes, gathered}
use Rattle.address_writer.proofs.write_routes.Goals as goal

pub returns-then-not-whole : goal.returns-then-not-whole
returns-then-not-whole c = let a = c.args in surplus 34 a.ranges.now c.if-not-whole.true 3 (value_in true a.ranges.now) a.out.now a.place ∙ routes a.ranges.now a.out.now a.place

pub returns : goal.returns
returns c =
    let a = c.args in
    let p = c.put_ranges-size in
    c.write_value.ensures
    ∙ gathered (gathers true a.ranges.now _ (λ f. absurd (true≢false f)) (omega arith) p.ensures.bytes) (omega arith) p.ensures.within true 3 a.out.now a.place
    ∙ whole_row 34 a.ranges.now c.if-not-whole.false 3 (value_in true a.ranges.now) a.out.now a.place
    ∙ routes a.ranges.now a.out.now a.place
