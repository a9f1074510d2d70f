-- Only for the proofs of the code: what is decided from what was found. `Tables` says what each call answers.
use Rattle.stream_records.specs.declared.answers.Entry.{Entry}
use Rattle.refusals.specs.declared.Refusal.{Refusal}
use Rattle.std.specs.Prelude.{◌≡◌, ℕ, Bool, Option, None, Some, set, Result, Ok, Err}
use Rattle.refusals.specs.Numbers.{not_a_request_stream}
use Rattle.wire.specs.declared.units.StreamId.{StreamId}
use Rattle.wire.specs.Units.{quarter_of}
use Rattle.stream_records.specs.declared.record.StreamRecord.{StreamRecord}
use Rattle.stream_records.specs.declared.record.Side.{Side}
use Rattle.stream_records.specs.declared.answers.SideClosed.{SideClosed}
use Rattle.stream_plans.specs.declared.plan.Plan.{Plan}
use Rattle.stream_records.specs.Records.{blank, opened, closed_side}
use Rattle.stream_records.specs.Tables.{Table, lookup_of, sought, lowest_free, open_entry, opening_of, close_entry, closing_of, stand_entry, table_opened, table_closed}

-- ---- decisions by what was found

unfoldable pub opening_by : Result (Option Entry) Refusal → Option ℕ → StreamId → Result ℕ Refusal
opening_by (Err why) free id = Err why
opening_by (Ok entry) free id = elim (quarter_of id) [ None ↦ Err not_a_request_stream | Some q ↦ open_entry entry free ]

unfoldable pub closing_by : Result (Option Entry) Refusal → StreamId → Side → Result SideClosed Refusal
closing_by (Err why) id side = Err why
closing_by (Ok entry) id side = elim (quarter_of id) [ None ↦ Err not_a_request_stream | Some q ↦ close_entry side entry ]

unfoldable pub standing_by : Result (Option Entry) Refusal → StreamId → Result ℕ Refusal
standing_by (Err why) id = Err why
standing_by (Ok entry) id = elim (quarter_of id) [ None ↦ Err not_a_request_stream | Some q ↦ stand_entry entry ]

-- ---- what is stored, and where

unfoldable pub opened_store : Result ℕ Refusal → StreamRecord → Option (ℕ × StreamRecord)
opened_store (Err r) kept = None
opened_store (Ok i) kept = Some (i, kept)

unfoldable pub closed_store : Result SideClosed Refusal → StreamRecord → Option (ℕ × StreamRecord)
closed_store (Err r) kept = None
closed_store (Ok side) kept = Some (side.place, kept)

-- the table with a record stored at its place, or as it is where none is stored
unfoldable pub stored : Table → Option (ℕ × StreamRecord) → Table
stored t None = t
stored t (Some s) = set t s.0 s.1

unfoldable pub record_in : Result (Option Entry) Refusal → StreamRecord
record_in (Err why) = blank
record_in (Ok None) = blank
record_in (Ok (Some found)) = found.stream

unfoldable pub opening_plan_of : Result (Option Entry) Refusal → Option ℕ → StreamId → Bool → Plan (Result ℕ Refusal)
opening_plan_of l free id semantics =
    let o = opening_by l free id in
    record { answer = o; store = opened_store o (opened (record { 0 = sought id }) semantics) }

unfoldable pub closing_plan_of : Result (Option Entry) Refusal → StreamId → Side → Plan (Result SideClosed Refusal)
closing_plan_of l id side =
    let c = closing_by l id side in
    record { answer = c; store = closed_store c (closed_side side (record_in l)) }

-- ---- what is decided and stored so is what `Tables` says (proofs/Planning.antt)

abbrev pub OpenedByPlan : Type 0
OpenedByPlan =
    (t : Table) (id : StreamId) (semantics : Bool)
    → let plan = opening_plan_of (lookup_of (sought id) t) (lowest_free t) id semantics in
    (plan.answer ≡ opening_of t id) × (stored t plan.store ≡ table_opened t id semantics (opening_of t id))

abbrev pub ClosedByPlan : Type 0
ClosedByPlan =
    (t : Table) (id : StreamId) (side : Side)
    → let plan = closing_plan_of (lookup_of (sought id) t) id side in
    (plan.answer ≡ closing_of t id side) × (stored t plan.store ≡ table_closed t side (closing_of t id side))
