-- The law `zeros` of Handing.
use Rattle.address_cursor.proofs.Handing.{zeros}
use Rattle.address_cursor.proofs.address_bytes.Goals as goal

pub returns : goal.returns
returns c = zeros c.args.address.now c.copy_from_slice.new.self c.copy_from_slice.ensures.after c.requires
