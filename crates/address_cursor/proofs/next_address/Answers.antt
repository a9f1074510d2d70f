-- By what `entry_at` finds: the law `address-found` of Handing.
use Rattle.walks.proofs.Words.{◌≡◌}
use Rattle.std.specs.Prelude.{Ok}
use Rattle.address_cursor.proofs.Terms.{next_address}
use Rattle.address_cursor.proofs.Handing as H
use Rattle.address_cursor.proofs.next_address.Goals as goal
use Rattle.address_cursor.proofs.next_address.Goals.{In_ok-entry}

found : (c : In_ok-entry) → H.HeldAddress c.args.value.now c.args.cursor (Ok c.in_ok-entry.field-0) ≡ next_address c.args.value.now c.args.cursor
found c = H.address-found c.args.value.now c.args.cursor _ c.in_ok-entry.ensures

pub returns-in_err-entry : goal.returns-in_err-entry
returns-in_err-entry c = H.refused _ c.from_residual.ensures.0 (H.address-found c.args.value.now c.args.cursor _ c.in_err-entry.ensures)

pub returns-in_default : goal.returns-in_default
returns-in_default c = rw c.in_default.is at (found (goal.at.returns-in_default c).In_ok-entry)

pub returns : goal.returns
returns c = rw c.address_bytes.ensures (rw c.in-Some.is at (found (goal.at.returns c).In_ok-entry))
