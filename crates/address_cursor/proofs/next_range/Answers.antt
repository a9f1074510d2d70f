-- By what `range_at` finds: the law `range-found` of Handing.
use Rattle.walks.proofs.Words.{◌≡◌, ◌+◌}
use Rattle.std.specs.Prelude.{Ok}
use Rattle.address_cursor.proofs.Terms.{bytes_each, next_range}
use Rattle.address_cursor.proofs.Handing as H
use Rattle.address_cursor.proofs.next_range.Goals as goal
use Rattle.address_cursor.proofs.next_range.Goals.{In_ok-width}

found : (c : In_ok-width) → H.HeldRange c.args.value.now c.args.cursor (Ok c.in_ok-width.field-0) ≡ next_range c.args.value.now c.args.cursor
found c = H.range-found c.args.value.now c.args.cursor (bytes_each c.args.value.now (λ i. (c.type_inv.value i).fits)) _ c.in_ok-width.ensures

pub returns-in_err-width : goal.returns-in_err-width
returns-in_err-width c = H.refused _ c.from_residual.ensures.0 (H.range-found c.args.value.now c.args.cursor (bytes_each c.args.value.now (λ i. (c.type_inv.value i).fits)) _ c.in_err-width.ensures)

pub returns-in_default : goal.returns-in_default
returns-in_default c = rw c.in_default.is at (found (goal.at.returns-in_default c).In_ok-width)

pub returns : goal.returns
returns c =
    let v = c.args.value.now in
    let at = c.args.cursor.at in
    rw (c.address_bytes.ensures, c.address_bytes-2.ensures, H.part v (at + 1) c.in-Some.width, H.part v (at + 1 + c.in-Some.width) c.in-Some.width) (rw c.in-Some.is at (found (goal.at.returns c).In_ok-width))
