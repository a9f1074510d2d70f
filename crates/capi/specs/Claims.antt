-- What holds of the calls. Each claim is a type here, and is proved in proofs/ under its name in lower case with dashes.
use Rattle.capsule.specs.declared.reader.Advance.{Advance}
use Rattle.std.specs.Prelude.{ℕ, ◌+◌, ◌≤◌, ◌<◌, ◌≡◌, ◌↔◌, Bool, true, false, cond, List, [], ◌∷◌, length, replicate, take, drop, eqb, None, Result, Ok, Err}
use Rattle.refusals.specs.declared.Refusal.{Refusal}
use Rattle.refusals.specs.Numbers.{refusal}
use Rattle.wire.specs.declared.units.StreamId.{StreamId}
use Rattle.wire.specs.Bytes.{Bytes}
use Rattle.wire.specs.Units.{quarter_of}
use Rattle.wire.specs.Writing.{Writing, write_varint}
use Rattle.opening.specs.declared.Role.{Role}
use Rattle.opening.specs.declared.Role.TheVariants.{Endpoint}
use Rattle.capsule.specs.declared.reader.Reader.{Reader}
use Rattle.capsule.specs.Calls.{Lent, Call, feed, close, run}
use Rattle.capsule.specs.Book.{new_book, book_call}
use Rattle.capsule.specs.State.{of_book}
use Rattle.capsule.specs.Reader.{opening, fresh, is_makeable, open_of, feed_of, close_of, reader_call}
use Rattle.capsule_laws.specs.Claims.{AllBytes, HandedOn}
use Rattle.stream_records.specs.declared.record.Side.{Side}
use Rattle.stream_records.specs.declared.record.Side.TheVariants.{Receive}
use Rattle.stream_records.specs.Tables.{Table, is_bad, opening_of, closing_of, standing_of, table_opened, table_closed}
use Rattle.judging.specs.Judging.{judged_of, payload_of}
use Rattle.sending.specs.Sending.{put_capsule, put_capsule_header, write_capsule, write_frame, write_frame_header}
use Rattle.address_cursor.specs.Handing.{next_address, next_range}
use Rattle.address_writer.specs.Writer.{write_addresses, write_routes}
use Rattle.look.specs.declared.Place.{Place}
use Rattle.look.specs.Looking.{look_of}
use Rattle.one_shot_listing.specs.Listing.{listing_of}
use Rattle.capsule_protocol.specs.Field.{field_of}
use Rattle.http_errors.specs.Translation.{translated}
use Rattle.reader_answers.specs.declared.reader.FedAnswer.{FedAnswer}
use Rattle.reader_answers.specs.declared.reader.ClosedAnswer.{ClosedAnswer}
use Rattle.reader_words.specs.Numbers.{role_of, flag_of, bit_of}
use Rattle.answers.specs.Numbers.{side_of, status_of}
use Rattle.answers.specs.Varint.{written_answer}
use Rattle.capi.specs.Varint.{wrote_by}
use Rattle.reader_words.specs.Claims.{HaveIsByte}
use Rattle.reader_words.specs.Words.{words_of, reader_in}
use Rattle.reader_answers.specs.Reader.{fed_refused, fed_answer, closed_answer}
use Rattle.reader_calls.specs.Reader.{open_words, fed, feed_words, closed, close_words}
use Rattle.stream_answers.specs.Table as table
use Rattle.stream_answers.specs.Table.{opened_answer}
use Rattle.capi.specs.Table.{open_table, close_table}
use Rattle.stream_answers.specs.Frames.{judged_answer}
use Rattle.reader_answers.specs.Sight.{sight_answer, looked_answer}
use Rattle.capi.specs.Sight.{look_words}
use Rattle.answers.specs.Identifiers.{quarter_answer}
use Rattle.answers.specs.AddressCapsules.{cursor, address_found, route_found}

-- ---- calls on a reader in words (proofs/Keeping.antt)

-- a refusal leaves the words and all buffers
abbrev pub RefusedReaderLeaves : Type 0
RefusedReaderLeaves =
    (ws : List ℕ)
    → ((role limit draft addresses : ℕ) → ((open_words ws role limit draft addresses).answer ≡ 0 → ⊥) → (open_words ws role limit draft addresses).words ≡ ws)
    × ((p : List ℕ) (b : Lent) → ((feed_words ws p b).answer.refusal ≡ 0 → ⊥) → ((feed_words ws p b).words ≡ ws) × ((feed_words ws p b).buffers ≡ b))
    × (((close_words ws).answer.refusal ≡ 0 → ⊥) → (close_words ws).words ≡ ws)

-- words that are all 0 are no reader's: each call is refused 1, and leaves them and all buffers
abbrev pub zero_words : List ℕ
zero_words = replicate 8 0

pub record ZeroWordsRefused : Type 0 where
  pub no_reader : reader_in zero_words ≡ None
  pub feeds : (p : List ℕ) (b : Lent) → feed_words zero_words p b ≡ fed (fed_refused (refusal 1)) zero_words b
  pub closes : close_words zero_words ≡ closed (closed_answer (Err (refusal 1))) zero_words
  pub looks : look_words zero_words ≡ looked_answer (Err (refusal 1))

-- the next call finds the reader that was opened
abbrev pub OpenKept : Type 0
OpenKept =
    (ws : List ℕ) (role limit draft addresses : ℕ)
    → (open_words ws role limit draft addresses).answer ≡ 0
    → (r : Reader) × (open_of (role_of role) limit (flag_of draft) (flag_of addresses) ≡ Ok r) × ((open_words ws role limit draft addresses).words ≡ words_of r) × (is_makeable r ≡ true)

-- on the words of a reader that can be made, a call is that of the reader, and the words afterwards are those of its state, which can be made again
pub record FeedKept (r : Reader) (p : List ℕ) (b : Lent) : Type 0 where
  pub answer : (feed_words (words_of r) p b).answer ≡ fed_answer (feed_of r p b).answer
  pub words : (feed_words (words_of r) p b).words ≡ words_of (feed_of r p b).reader
  pub buffers : (feed_words (words_of r) p b).buffers ≡ (feed_of r p b).buffers
  pub makeable : is_makeable (feed_of r p b).reader ≡ true

pub record CloseKept (r : Reader) : Type 0 where
  pub answer : (close_words (words_of r)).answer ≡ closed_answer (close_of r).answer
  pub words : (close_words (words_of r)).words ≡ words_of (close_of r).reader
  pub makeable : is_makeable (close_of r).reader ≡ true

abbrev pub ReaderKept : Type 0
ReaderKept = (r : Reader) → is_makeable r ≡ true → ((p : List ℕ) (b : Lent) → Bytes p → FeedKept r p b) × CloseKept r

-- a look at the words is the look at the reader that they are; wherever its stream stands the mark and the limit are told (proofs/Told.antt)
pub record LookKept : Type 0 where
  pub looks : (r : Reader) → HaveIsByte r.phase → look_words (words_of r) ≡ looked_answer (look_of r)
  pub tells :
      (finished : Bool) (limit : ℕ) (place : Place)
      → let a = sight_answer finished limit place in (a.refusal ≡ 0) × (a.finished ≡ bit_of finished) × (a.datagram_limit ≡ limit)

-- any list of calls (proofs/Throughout.antt): the answers in numbers, and the buffers that each call leaves
pub data Numbers : Type 0 where
  fed_in : FedAnswer → Lent → Numbers
  closed_in : ClosedAnswer → Numbers

unfoldable pub words_call : List ℕ → Call → List ℕ × Numbers
words_call ws (feed p b) = ((feed_words ws p b).words, fed_in (feed_words ws p b).answer (feed_words ws p b).buffers)
words_call ws close = ((close_words ws).words, closed_in (close_words ws).answer)

unfoldable pub run_words : List ℕ → List Call → List ℕ × List Numbers
run_words ws [] = (ws, [])
run_words ws (c ∷ cs) = ((run_words (words_call ws c).0 cs).0, (words_call ws c).1 ∷ (run_words (words_call ws c).0 cs).1)

-- those of a reader's answers
unfoldable pub numbers_of : Reader → Call → Numbers
numbers_of r (feed p b) = fed_in (fed_answer (feed_of r p b).answer) (feed_of r p b).buffers
numbers_of r close = closed_in (closed_answer (close_of r).answer)

unfoldable pub run_numbers : Reader → List Call → List Numbers
run_numbers r [] = []
run_numbers r (c ∷ cs) = numbers_of r c ∷ run_numbers (reader_call r c).0 cs

-- they are the reader's, refused ones included, and the words afterwards are its state's; so demand 3 (`Demand3` of capsule_laws) is theirs, too
abbrev pub Throughout : Type 0
Throughout = (r : Reader) → is_makeable r ≡ true → (cs : List Call) → AllBytes cs → run_words (words_of r) cs ≡ (words_of (run reader_call r cs).0, run_numbers r cs)

-- from an opening, with the buffers handed on: the words afterwards are made from the book's stream and mark
abbrev pub Demand3InWords : Type 0
Demand3InWords =
    (ws : List ℕ) (role limit draft addresses : ℕ) (cs : List Call)
    → let op = opening (role_of role) limit (flag_of draft) (flag_of addresses) in
    (open_words ws role limit draft addresses).answer ≡ 0
    → AllBytes cs
    → HandedOn None (new_book op) (fresh op) cs
    → run_words (open_words ws role limit draft addresses).words cs ≡ (words_of (of_book (run book_call (new_book op) cs).0), run_numbers (fresh op) cs)

-- a malformed capsule (report 6) is error 7, and no other answer of a feeding is an error (proofs/Told.antt)
abbrev pub MalformedError : Type 0
MalformedError = (a : Result Advance Refusal) → (fed_answer a).error ≡ cond (eqb (fed_answer a).report 6) 7 0

-- ---- entries handed out (proofs/Entries.antt)

-- behind an entry lies a later place of the value, its end at the latest; where none was found the place stays
abbrev pub GoesOn : List ℕ → ℕ → ℕ → ℕ → Type 0
GoesOn v at found next = (found ≡ 1 → (at < next) × (next ≤ length v)) × ((found ≡ 1 → ⊥) → next ≡ at)

abbrev pub EntriesGoOn : Type 0
EntriesGoOn =
    (v : List ℕ) (at : ℕ)
    → (let a = address_found (cursor at) (next_address v (cursor at)) in GoesOn v at a.found a.next)
    × (let r = route_found (cursor at) (next_range v (cursor at)) in GoesOn v at r.found r.next)

-- ---- calls on a table (proofs/TableCalls.antt)

-- a good table stays good
abbrev pub TableStaysGood : Type 0
TableStaysGood = (t : Table) (id x : ℕ) → is_bad t ≡ false → (is_bad (open_table t id x).table ≡ false) × (is_bad (close_table t id x).table ≡ false)

-- the answer in numbers and the table afterwards are the core's, with the number of the semantics and of the side read
abbrev pub TableKept : Type 0
TableKept =
    (t : Table) (id x : ℕ)
    → let stream : StreamId = record { 0 = id } in
    ((open_table t id x).answer ≡ opened_answer (opening_of t stream)) × ((open_table t id x).table ≡ table_opened t stream (flag_of x) (opening_of t stream))
    × ((close_table t id x).answer ≡ table.closed_answer (closing_of t stream (side_of x))) × ((close_table t id x).table ≡ table_closed t (side_of x) (closing_of t stream (side_of x)))

-- a refusal leaves the table
abbrev pub RefusedTableLeaves : Type 0
RefusedTableLeaves =
    (t : Table) (id x : ℕ)
    → (((open_table t id x).answer.refusal ≡ 0 → ⊥) → (open_table t id x).table ≡ t)
    × (((close_table t id x).answer.refusal ≡ 0 → ⊥) → (close_table t id x).table ≡ t)

-- ---- numbers that are handed in (proofs/TableCalls.antt)

-- 0 is no, the endpoint, the receive side, and any other number the other; a status above 65,535 is none
abbrev pub NumbersRead : Type 0
NumbersRead =
    (n : ℕ)
    → ((flag_of n ≡ false) ↔ (n ≡ 0)) × ((role_of n ≡ Endpoint) ↔ (n ≡ 0)) × ((side_of n ≡ Receive) ↔ (n ≡ 0)) × (n ≤ 65535 → status_of n ≡ n) × (65535 < n → status_of n ≡ 0)

-- ---- payloads and writers (proofs/Payloads.antt)

-- the answered part lies in the frame and is its payload: empty where it is not delivered
abbrev pub PayloadPart : Type 0
PayloadPart =
    (t : Table) (streams limit : ℕ) (frame : List ℕ)
    → let a = judged_answer frame (judged_of t streams limit frame) in
    (a.start + a.length ≤ length frame) × (take a.length (drop a.start frame) ≡ payload_of t streams limit frame)

-- the answer in numbers and the output are the core's
abbrev pub WrittenKept : Type 0
WrittenKept = (w : Writing) → ((wrote_by w).answer ≡ written_answer w.answer) × ((wrote_by w).output ≡ w.output)

-- a refusal leaves the output
abbrev pub RefusalLeaves : Writing → List ℕ → Type 0
RefusalLeaves w out = ((wrote_by w).answer.refusal ≡ 0 → ⊥) → (wrote_by w).output ≡ out

abbrev pub RefusedWriteLeaves : Type 0
RefusedWriteLeaves =
    (out : List ℕ) (place : ℕ)
    → ((n : ℕ) → RefusalLeaves (write_varint n out place) out)
    × ((t : Table) (id : StreamId) (payload : List ℕ) → RefusalLeaves (write_capsule t id payload out place) out)
    × ((t : Table) (id : StreamId) (ours peers path : ℕ) (payload : List ℕ) → RefusalLeaves (write_frame t id ours peers path payload out place) out)
    × ((t : Table) (id : StreamId) (ours peers path n : ℕ) → RefusalLeaves (write_frame_header t id ours peers path n out place) out)
    × ((payload : List ℕ) → RefusalLeaves (put_capsule payload out place) out)
    × ((n : ℕ) → RefusalLeaves (put_capsule_header n out place) out)
    × ((t : ℕ) (row : List ℕ) → RefusalLeaves (write_addresses t row out place) out)
    × ((row : List ℕ) → RefusalLeaves (write_routes row out place) out)

-- ---- 0 says "not refused": no refusal has that number (proofs/Nonzero.antt)

abbrev pub NotZero : Refusal → Type 0
NotZero why = why.0 ≡ 0 → ⊥

-- of an answer that may be a refusal
abbrev pub Numbered : {A : Type 0} → (Refusal → A) → A → Type 0
Numbered refused a = (why : Refusal) → a ≡ refused why → NotZero why

abbrev pub WritingNumbered : Writing → Type 0
WritingNumbered w = Numbered Err w.answer

pub record NumberedRefusals : Type 0 where
  pub opens : (role : Role) (limit : ℕ) (draft addresses : Bool) → Numbered Err (open_of role limit draft addresses)
  pub feeds : (r : Reader) (p : List ℕ) (b : Lent) → Numbered Err (feed_of r p b).answer
  pub closes : (r : Reader) → Numbered Err (close_of r).answer
  pub looks : (r : Reader) → Numbered Err (look_of r)
  pub lists : (s : List ℕ) → Numbered Err (listing_of s)
  pub writes-varint : (n : ℕ) (out : List ℕ) (place : ℕ) → WritingNumbered (write_varint n out place)
  pub opens-stream : (t : Table) (id : StreamId) → Numbered Err (opening_of t id)
  pub closes_side : (t : Table) (id : StreamId) (side : Side) → Numbered Err (closing_of t id side)
  pub quarters : (id : StreamId) → quarter_of id ≡ None → (quarter_answer (quarter_of id)).refusal ≡ 0 → ⊥
  pub judges : (t : Table) (streams limit : ℕ) (frame : List ℕ) → Numbered Err (judged_of t streams limit frame)
  pub writes-capsule : (t : Table) (id : StreamId) (payload out : List ℕ) (place : ℕ) → WritingNumbered (write_capsule t id payload out place)
  pub writes-frame : (t : Table) (id : StreamId) (ours peers path : ℕ) (payload out : List ℕ) (place : ℕ) → WritingNumbered (write_frame t id ours peers path payload out place)
  pub finds_stream : (t : Table) (id : StreamId) → Numbered Err (standing_of t id)
  pub writes-frame-header : (t : Table) (id : StreamId) (ours peers path n : ℕ) (out : List ℕ) (place : ℕ) → WritingNumbered (write_frame_header t id ours peers path n out place)
  pub writes_datagram : (payload out : List ℕ) (place : ℕ) → WritingNumbered (put_capsule payload out place)
  pub writes_datagram_header : (n : ℕ) (out : List ℕ) (place : ℕ) → WritingNumbered (put_capsule_header n out place)
  pub writes-addresses : (t : ℕ) (row out : List ℕ) (place : ℕ) → WritingNumbered (write_addresses t row out place)
  pub writes_routes : (row out : List ℕ) (place : ℕ) → WritingNumbered (write_routes row out place)
  pub reads_field : (value : List ℕ) → Numbered Err (field_of value)
  pub translates : (error version : ℕ) → Numbered Err (translated error version)
