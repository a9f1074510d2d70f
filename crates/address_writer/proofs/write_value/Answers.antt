-- By the tests: the laws `malformed`, `short` and `fits` of Writing.
use Rattle.walks.proofs.Words.{arith, ◌∙◌, ◌≡◌, true, inr, length, length-set}
use Rattle.address_writer.proofs.Terms.{well_formed, size_most}
use Rattle.address_writer.proofs.Writing.{malformed, short, fits, formed_short}
use Rattle.address_writer.proofs.write_value.Goals as goal
use Rattle.address_writer.proofs.write_value.Goals.{After-least_size-head}

formed : (c : After-least_size-head) → let a = c.args in well_formed a.ctype a.value.now ≡ true
formed c = cc

pub returns-then-not-well_formed : goal.returns-then-not-well_formed
returns-then-not-well_formed c = let a = c.args in malformed a.ctype a.value.now a.out.now a.place true (inr (cc))

pub overflow_add-head : goal.overflow_add-head
overflow_add-head c = omega (arith, c.least_size-head.ensures, size_most (length c.args.value.now))

pub returns-then-place-out : goal.returns-then-place-out
returns-then-place-out c = let a = c.args in
    short a.ctype a.value.now a.out.now a.place (formed (goal.at.returns-then-place-out c).After-least_size-head) c.least_size-head.result c.least_size-head.ensures (omega arith)

pub overflow_add-head-2 : goal.overflow_add-head-2
overflow_add-head-2 c = let a = c.args in
    omega (arith, c.least_size-head.ensures, size_most (length a.value.now), formed_short a.ctype a.value.now (formed (goal.at.overflow_add-head-2 c).After-least_size-head))

pub returns-then-out-place : goal.returns-then-out-place
returns-then-out-place c = let a = c.args in
    short a.ctype a.value.now a.out.now a.place (formed (goal.at.returns-then-out-place c).After-least_size-head) c.least_size-head.result c.least_size-head.ensures (omega arith)

pub shape_of-out : goal.shape_of-out
shape_of-out c = c.copy_span.auto.dst ∙ c.write_varint.auto.out ∙ simp length-set

pub returns : goal.returns
returns c = let a = c.args in
    fits a.ctype a.value.now a.out.now a.place (formed (goal.at.returns c).After-least_size-head) c.least_size-head.result c.least_size-head.ensures (omega (arith, c.if-out-place.false, c.if-place-out.false)) c.write_varint.ensures c.copy_span.ensures
