-- Room: an address has at most 16 bytes; the law `put_range` of Putting joins what was put.
use Rattle.walks.proofs.Words.{arith, get_or, length, drop, take, length-drop, length-take-le, ◌≡◌}
use Rattle.address_rows.proofs.Terms.{bytes_each}
use Rattle.address_rows.proofs.Putting.{put_range, address_most}
use Rattle.address_rows.proofs.RangesRecordRANGE_SIZE.put.Goals as goal

pub put_address-c-requires : goal.put_address-c-requires
put_address-c-requires c =
    let l : length (take 16 (drop 18 c.args.bytes.now)) ≡ 16 = length-take-le 16 (drop 18 c.args.bytes.now) (omega (arith, length-drop 18 c.args.bytes.now)) in
    (omega (arith, l), omega (arith, address_most (take 32 (drop 2 c.args.bytes.now)) (get_or c.args.bytes.now 0 0), c.put_address-b.auto.out, c.put_byte-a.auto.out))

pub put_byte-requires : goal.put_byte-requires
put_byte-requires c =
    omega (arith, address_most (take 32 (drop 2 c.args.bytes.now)) (get_or c.args.bytes.now 0 0), address_most (take 16 (drop 18 c.args.bytes.now)) (get_or c.args.bytes.now 0 0), c.put_address-c.auto.out, c.put_address-b.auto.out, c.put_byte-a.auto.out)

pub returns : goal.returns
returns c = (
  put_range c.args.bytes.now (bytes_each c.args.bytes.now c.fits-bytes) (omega arith) c.put_byte-a.ensures c.put_address-b.ensures c.put_address-c.ensures c.put_byte.ensures,
  omega (arith, address_most (take 32 (drop 2 c.args.bytes.now)) (get_or c.args.bytes.now 0 0), address_most (take 16 (drop 18 c.args.bytes.now)) (get_or c.args.bytes.now 0 0)),
)
