-- By what `write_varint` answers: the laws `put_wrote` and `put_refused` of Putting.
use Rattle.walks.proofs.Words.{arith, ◌+◌, ◌≤◌}
use Rattle.address_rows.proofs.Terms.{Put, id_bytes}
use Rattle.address_rows.proofs.Putting.{put_wrote, put_refused}
use Rattle.address_rows.proofs.put_number.Goals as goal
use Rattle.address_rows.proofs.put_number.Goals.{In-Ok}

wrote : (c : In-Ok) → Put (id_bytes c.args.n) c.args.out.now c.args.at c.write_varint.new.out (c.args.at + c.in-Ok.size) × (c.in-Ok.size ≤ 8)
wrote c = put_wrote c.args.n c.args.out.now c.args.at c.requires c.write_varint.new.out c.in-Ok.size (rw c.in-Ok.is at c.write_varint.ensures)

pub overflow_add-result : goal.overflow_add-result
overflow_add-result c = omega (arith, (wrote c).1, c.requires)

pub returns-in-Ok : goal.returns-in-Ok
returns-in-Ok c = ((wrote c).0, omega (arith, (wrote c).1))

pub returns-in-Err : goal.returns-in-Err
returns-in-Err c = (put_refused c.args.n c.args.out.now c.args.at c.requires c.write_varint.new.out c.in-Err.field-0 (rw c.in-Err.is at c.write_varint.ensures), omega arith)
