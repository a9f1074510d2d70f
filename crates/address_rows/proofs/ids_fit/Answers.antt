-- The laws `ids_large` and `ids_on` of Rows do an ID.
use Rattle.walks.proofs.Words.{arith, ◌≡◌, sym, ◌∙◌}
use Rattle.address_rows.proofs.Terms.{largest}
use Rattle.address_rows.proofs.Rows.{ids_all, ids-end, ids_on, ids_large, id_at, id_of_chunk}
use Rattle.address_rows.proofs.ids_fit.Goals as goal
use Rattle.address_rows.proofs.ids_fit.Goals.{After-request_id}

pub loop-record-init : goal.loop-record-init
loop-record-init c = sym (ids_all c.args.row.now)

id_is : (c : After-request_id) → c.request_id.result ≡ id_at c.args.row.now c.loop-record.record-index
id_is c = c.request_id.ensures ∙ id_of_chunk c.args.row.now c.as_chunks.result.0.now c.loop-record.record-index _ c.as_chunks.ensures.front (omega arith)

pub loop-record-preserved : goal.loop-record-preserved
loop-record-preserved c =
    c.loop-record.invariant ∙ ids_on c.args.row.now c.loop-record.record-index (omega arith) (unfold largest in omega (arith, id_is (goal.at.loop-record-preserved c).After-request_id))

pub returns-then-request_id-gt-MAX : goal.returns-then-request_id-gt-MAX
returns-then-request_id-gt-MAX c =
    sym (c.loop-record.invariant ∙ ids_large c.args.row.now c.loop-record.record-index (omega arith) (unfold largest in omega (arith, id_is (goal.at.returns-then-request_id-gt-MAX c).After-request_id)))

pub returns : goal.returns
returns c = sym (c.loop-record.invariant ∙ ids-end c.args.row.now c.loop-record.record-index (omega arith))
