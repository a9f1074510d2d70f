-- The law `put_entry` of Putting joins what was put.
use Rattle.walks.proofs.Words.{arith, get_or, take, drop}
use Rattle.address_rows.proofs.Putting.{put_entry, address_most}
use Rattle.address_rows.proofs.EntriesRecordENTRY_SIZE.put.Goals as goal

pub returns : goal.returns
returns c = (
  put_entry c.args.bytes.now c.request_id.ensures c.put_number-a.ensures.0 c.put_byte-b.ensures c.put_address-c.ensures c.put_byte.ensures,
  omega (arith, address_most (take 22 (drop 10 c.args.bytes.now)) (get_or c.args.bytes.now 8 0)),
)
