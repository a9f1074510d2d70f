-- The law `little_eight` of Rows.
use Rattle.walks.proofs.Words.{arith, ap, ◌∙◌, length-take-le}
use Rattle.std.specs.Int.{from_le_bytes, w64}
use Rattle.address_rows.proofs.Rows.{little_eight}
use Rattle.address_rows.proofs.request_id.Goals as goal

pub returns : goal.returns
returns c = c.from_le_bytes.ensures ∙ ap (from_le_bytes w64) c.copy_from_slice.ensures.after ∙ little_eight _ (length-take-le 8 c.args.bytes.now (omega arith))
