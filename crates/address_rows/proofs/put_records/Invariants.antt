-- Invariant: what is put so far, with the records left, is the whole (`Going`).
use Rattle.walks.proofs.Words.{◌≤◌, length}
use Rattle.address_rows.proofs.{Putting.Going}
use Rattle.address_rows.proofs.put_records.Given as goal

abbrev pub invariant-loop-record : goal.invariant-loop-record
invariant-loop-record g l = Going g.R.Record.routes l.row l.initial.out l.record-index l.at l.out × (l.at ≤ length l.out)
