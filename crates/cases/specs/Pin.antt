-- A case that fixes a reading of documents 01 and 02: what it asks, and what it expects.
use Rattle.refusals.specs.declared.Refusal.{Refusal}
use Rattle.capsule.specs.declared.reader.Ending.{Ending}
use Rattle.capsule.specs.declared.reader.Advance.{Advance}
use Rattle.wire.specs.declared.units.Quarter.{Quarter}
use Rattle.wire.specs.declared.units.StreamId.{StreamId}
use Rattle.short_forms.specs.declared.Varint.{Varint}
use Rattle.std.specs.Prelude.{ℕ, Bool, true, false, List, replicate, Result}
use Rattle.std.specs.Prelude.{Option}
use Rattle.wire.specs.Varint.{read_varint}
use Rattle.wire.specs.Writing.{Writing, writing, write_varint}
use Rattle.wire.specs.Units.{quarter_of, stream_of}
use Rattle.wire.specs.declared.partial.Partial.{Partial}
use Rattle.wire.specs.declared.partial.VarintTaken.{VarintTaken}
use Rattle.wire.specs.Partial.{take_varint}
use Rattle.opening.specs.declared.Role.{Role}
use Rattle.opening.specs.declared.Role.TheVariants.{Endpoint, Intermediary}
use Rattle.opening.specs.declared.Opening.{Opening}
use Rattle.planning.specs.declared.Phase.{Phase}
use Rattle.capsule.specs.declared.reader.Reader.{Reader}
use Rattle.capsule.specs.declared.reader.Closed.{Closed}
use Rattle.capsule.specs.Calls.{Lent, Call, Reply, run}
use Rattle.capsule.specs.Book.{new_book, book_call}
use Rattle.capsule.specs.Reader.{opening, fresh, open_of, is_makeable, Feeding, feeding, feed_of, closing, close_of, reader_call}
use Rattle.cases.specs.Starred.{Outcome, outcome_of}
use Rattle.stream_records.specs.Tables.{Table}
use Rattle.judging.specs.declared.judge.Judged.{Judged}
use Rattle.judging.specs.Judging.{judged_of, payload_of, rule_of, is_delivered}
use Rattle.sending.specs.Sending.{write_capsule, write_frame}

pub data Pin : Type 0 where
  -- bytes, and what is read at their front
  reads : List ℕ → Option Varint → Pin
  -- a number, an output and a place; the answer, and the output afterwards
  writes : (n : ℕ) (out : List ℕ) (place : ℕ) → Result ℕ Refusal → (after : List ℕ) → Pin
  -- a stream ID and its quarter, a quarter and its stream ID
  quarters : ℕ → Option Quarter → Pin
  streams : ℕ → Option StreamId → Pin
  -- a part of a varint, and what it comes to by more bytes
  takes : Partial → List ℕ → VarintTaken → Pin
  -- what a whole stream comes to
  lists : (role : Role) (limit : ℕ) (draft addresses : Bool) (bytes : List ℕ) → Outcome → Pin
  -- opening a reader
  opens : (role : Role) (limit : ℕ) (draft addresses : Bool) → Result Reader Refusal → Pin
  -- a state, and whether it can be made
  makeable : Reader → Bool → Pin
  -- a state, a piece and buffers; the state, the answer and the buffers afterwards
  feeds : Reader → (piece : List ℕ) → Lent → Reader → Result Advance Refusal → Lent → Pin
  closes : Reader → Reader → Result Ending Refusal → Pin
  -- calls on a book and on a reader that were just opened, and their answers
  answers : Opening → List Call → List Reply → Pin
  -- a table, the stated stream limit, the datagram limit and a frame's payload: how it is judged, and the payload that is delivered
  judges : (table : Table) (streams limit : ℕ) (frame : List ℕ) → Result Judged Refusal → (payload : List ℕ) → Pin
  -- a table, a stream ID, a payload, an output and a place; the answer, and the output afterwards
  capsules : (table : Table) (id : ℕ) (payload out : List ℕ) (place : ℕ) → Result ℕ Refusal → (after : List ℕ) → Pin
  -- besides, our setting, the peer's and the path size
  frames : (table : Table) (id ours peers path : ℕ) (payload out : List ℕ) (place : ℕ) → Result ℕ Refusal → (after : List ℕ) → Pin
  -- the number of a judgement's rule, and whether it delivers
  rules : Result Judged Refusal → Option ℕ → Bool → Pin

-- what the definitions say of a case, or what it expects
pub data Answer : Type 0 where
  varint : Option Varint → Answer
  written : Writing → Answer
  quarter_is : Option Quarter → Answer
  stream_is : Option StreamId → Answer
  taken : VarintTaken → Answer
  comes : Outcome → Answer
  opened : Result Reader Refusal → Answer
  is_made : Bool → Answer
  fed_to : Feeding → Answer
  closed_to : Closed → Answer
  -- the book's, and the reader's
  replies : List Reply → List Reply → Answer
  judgement : Result Judged Refusal → (payload : List ℕ) → Answer
  rule : Option ℕ → Bool → Answer

abbrev pub got : Pin → Answer
got (reads s r) = varint (read_varint s)
got (writes n out place r after) = written (write_varint n out place)
got (quarters id r) = quarter_is (quarter_of (record { 0 = id }))
got (streams q r) = stream_is (stream_of (record { 0 = q }))
got (takes p s r) = taken (take_varint p s)
got (lists role limit draft addresses bytes o) = comes (outcome_of (opening role limit draft addresses) bytes)
got (opens role limit draft addresses r) = opened (open_of role limit draft addresses)
got (makeable r b) = is_made (is_makeable r)
got (feeds r p b r' a b') = fed_to (feed_of r p b)
got (closes r r' a) = closed_to (close_of r)
got (answers op cs rs) = replies (run book_call (new_book op) cs).1 (run reader_call (fresh op) cs).1
got (judges t n limit bytes j payload) = judgement (judged_of t n limit bytes) (payload_of t n limit bytes)
got (capsules t id payload out place r after) = written (write_capsule t (record { 0 = id }) payload out place)
got (frames t id ours peers path payload out place r after) = written (write_frame t (record { 0 = id }) ours peers path payload out place)
got (rules j n b) = rule (rule_of j) (is_delivered j)

abbrev pub expected : Pin → Answer
expected (reads s r) = varint r
expected (writes n out place r after) = written (writing r after)
expected (quarters id r) = quarter_is r
expected (streams q r) = stream_is r
expected (takes p s r) = taken r
expected (lists role limit draft addresses bytes o) = comes o
expected (opens role limit draft addresses r) = opened r
expected (makeable r b) = is_made b
expected (feeds r p b r' a b') = fed_to (feeding r' a b')
expected (closes r r' a) = closed_to (closing r' a)
expected (answers op cs rs) = replies rs rs
expected (judges t n limit bytes j payload) = judgement j payload
expected (capsules t id payload out place r after) = written (writing r after)
expected (frames t id ours peers path payload out place r after) = written (writing r after)
expected (rules j n b) = rule n b

-- ---- what several tables name

abbrev pub endpoint : ℕ → Opening
endpoint limit = opening Endpoint limit false false

abbrev pub intermediary : ℕ → Opening
intermediary limit = opening Intermediary limit false false

-- an endpoint that takes address capsules, and an intermediary that says so
abbrev pub opted_in : Bool → Opening
opted_in draft = opening Endpoint 4 draft true

abbrev pub passing : Opening
passing = opening Intermediary 4 false true

abbrev pub state : Opening → Phase → Bool → Reader
state op phase finished = record { opening = op; phase = phase; finished = finished }

abbrev pub nines : ℕ → List ℕ
nines n = replicate n 9
