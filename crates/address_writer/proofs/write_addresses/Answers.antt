-- By `ids_fit` and the row's length: the laws `large`, `surplus`, `whole_row` and `addresses` of Writing.
use Rattle.walks.proofs.Words.{true, false, ◌∙◌, sym, arith}
use Rattle.address_writer.proofs.Terms.{gathers, value_in}
use Rattle.address_writer.proofs.Writing.{large, surplus, whole_row, addresses, gathered}
use Rattle.address_writer.proofs.write_addresses.Goals as goal

pub returns-then-not-ids_fit : goal.returns-then-not-ids_fit
returns-then-not-ids_fit c = let a = c.args in large a.row.now a.out.now a.place a.ctype (sym c.ids_fit.ensures ∙ c.if-not-ids_fit.true)

pub returns-then-not-whole : goal.returns-then-not-whole
returns-then-not-whole c =
    let a = c.args in
    surplus 32 a.row.now c.if-not-whole.true a.ctype (value_in false a.row.now) a.out.now a.place ∙ addresses a.row.now a.out.now a.place a.ctype (sym c.ids_fit.ensures ∙ c.if-not-ids_fit.false)

pub returns : goal.returns
returns c =
    let a = c.args in
    let p = c.put_entries-size in
    let fit = sym c.ids_fit.ensures ∙ c.if-not-ids_fit.false in
    c.write_value.ensures
    ∙ gathered (gathers false a.row.now _ (λ _. fit) (omega arith) p.ensures.bytes) (omega arith) p.ensures.within true a.ctype a.out.now a.place
    ∙ whole_row 32 a.row.now c.if-not-whole.false a.ctype (value_in false a.row.now) a.out.now a.place
    ∙ addresses a.row.now a.out.now a.place a.ctype fit
