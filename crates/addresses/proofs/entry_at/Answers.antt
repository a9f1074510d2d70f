-- By what `read_varint` answers: the laws `entry-end`, `entry_cut` and `entry_goes_on` of Reading.
use Rattle.std.specs.Prelude.{Some}
use Rattle.short_forms.specs.Short.{varint_of}
use Rattle.addresses.proofs.Terms.{read_varint}
use Rattle.walks.proofs.Words.{arith, ◌≡◌, sym, ◌∙◌, ap, ◌+◌, ◌≤◌, drop, length}
use Rattle.addresses.proofs.Reading as L
use Rattle.addresses.proofs.entry_at.Goals as goal
use Rattle.addresses.proofs.entry_at.Goals.{After-read_varint, In-Some}

read_is : (c : After-read_varint) → c.read_varint.result ≡ read_varint (drop c.args.at c.args.value.now)
read_is c = c.read_varint.ensures ∙ ap read_varint (L.rest_of c.args.value.now c.args.at)

whole_is : (c : In-Some) → read_varint (drop c.args.at c.args.value.now) ≡ Some (varint_of c.in-Some.id.value c.in-Some.id.size)
whole_is c = sym ((c.read_varint.ensures ∙ ap read_varint (L.rest_of c.args.value.now c.args.at))) ∙ c.in-Some.is

whole-within : (c : In-Some) → c.args.at + c.in-Some.id.size ≤ length c.args.value.now
whole-within c = omega (arith, L.id_within c.args.value.now c.args.at _ _ ((sym ((c.read_varint.ensures ∙ ap read_varint (L.rest_of c.args.value.now c.args.at))) ∙ c.in-Some.is)))

pub returns-then-at-value : goal.returns-then-at-value
returns-then-at-value c = L.entry-end c.args.value.now _ c.if-at-value.true

pub overflow_add-at : goal.overflow_add-at
overflow_add-at c = omega (arith, whole-within (goal.at.overflow_add-at c).In-Some)

pub address_at-requires : goal.address_at-requires
address_at-requires c = whole-within (goal.at.address_at-requires c).In-Some

pub returns-in-None : goal.returns-in-None
returns-in-None c = L.entry_cut c.args.value.now c.args.at _ (omega arith) (sym (read_is (goal.at.returns-in-None c).After-read_varint) ∙ c.in-None.is)

pub returns-in_err-address_at-in-Some : goal.returns-in_err-address_at-in-Some
returns-in_err-address_at-in-Some c = L.entry_goes_on c.args.value.now c.args.at c.in-Some.id.value c.in-Some.id.size c.from_residual.result (omega arith) (whole_is (goal.at.returns-in_err-address_at-in-Some c).In-Some) (L.refused _ c.from_residual.ensures.0 c.in_err-address_at-in-Some.ensures)

pub returns-in_ok-address_at-in-Some : goal.returns-in_ok-address_at-in-Some
returns-in_ok-address_at-in-Some c = L.entry_goes_on c.args.value.now c.args.at c.in-Some.id.value c.in-Some.id.size _ (omega arith) (whole_is (goal.at.returns-in_ok-address_at-in-Some c).In-Some) (rw c.in_ok-address_at-in-Some.was at c.address_at.ensures)
