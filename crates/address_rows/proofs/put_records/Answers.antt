-- The law `turn` of Putting does a record.
use Rattle.walks.proofs.Words.{arith}
use Rattle.address_rows.proofs.Rows.{size_some}
use Rattle.address_rows.proofs.Putting.{no_room, going_starts, going_stops, turn, turns_end}
use Rattle.address_rows.proofs.put_records.Goals as goal

pub returns-then-out-lt1058 : goal.returns-then-out-lt1058
returns-then-out-lt1058 g c = record { bytes = no_room g.R.Record.routes c.args.row.now c.args.out.now (omega arith); within = omega arith }

pub loop-record-init : goal.loop-record-init
loop-record-init g c = (going_starts g.R.Record.routes c.args.row.now c.args.out.now, omega arith)

pub loop-record-preserved : goal.loop-record-preserved
loop-record-preserved g c = (
  turn g.R.Record.routes c.args.row.now c.args.out.now g.row.N g.met.R.Record.size c.loop-record.record-index c.as_chunks.result.0.now c.record-item.result c.as_chunks.ensures.front c.record-item.is (omega arith) (omega arith) c.loop-record.invariant.0 c.put-at.ensures.0,
  omega (arith, c.put-at.ensures.1, c.put-at.auto.out),
)

pub as_chunks-requires : goal.as_chunks-requires
as_chunks-requires g c = let s = size_some g.R.Record.routes g.row.N g.met.R.Record.size in (omega (arith, s.1), s.0)

pub returns-then-at-gt-LONGEST_ADDRESS_VALUE : goal.returns-then-at-gt-LONGEST_ADDRESS_VALUE
returns-then-at-gt-LONGEST_ADDRESS_VALUE g c = record { bytes = going_stops g.R.Record.routes c.args.row.now c.args.out.now (omega arith) (omega arith) c.loop-record.invariant.0; within = c.loop-record.invariant.1 }

pub returns : goal.returns
returns g c = record { bytes = turns_end g.R.Record.routes c.args.row.now c.args.out.now g.row.N g.met.R.Record.size c.loop-record.record-index (omega arith) (omega arith) c.loop-record.invariant.0; within = c.loop-record.invariant.1 }
