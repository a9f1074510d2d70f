-- What holds of the definitions: each claim is a type here, and is proved in proofs/ under its name in lower case with dashes.
use Rattle.stream_records.specs.Tables.{side_closed}
use Rattle.std.specs.Prelude.{◌≡◌, ℕ, ◌/◌, ◌%◌, ◌<◌, ◌≤◌, ◌↔◌, Bool, true, false, [], length, get_or, Some, None, Result, Ok, Err}
use Rattle.refusals.specs.declared.Refusal.{Refusal}
use Rattle.refusals.specs.Numbers.{bad_table, no_free_place}
use Rattle.wire.specs.declared.units.StreamId.{StreamId}
use Rattle.wire.specs.declared.units.Quarter.{Quarter}
use Rattle.wire.specs.Units.{is_request, largest_quarter, quarter_of}
use Rattle.stream_records.specs.declared.record.StreamRecord.{StreamRecord}
use Rattle.stream_records.specs.declared.record.Side.{Side}
use Rattle.stream_records.specs.declared.record.Side.TheVariants.{Receive, Send}
use Rattle.stream_records.specs.declared.answers.SideClosed.{SideClosed}
use Rattle.stream_records.specs.Records.{blank, opened, is_used, receive_open, send_open, has_semantics, both_closed, is_blank, is_bad_record, holds, with_closed, closed_side}
use Rattle.stream_records.specs.Words.{UsedBelow, GoodTable}
use Rattle.stream_records.specs.Tables.{Table, is_bad, find, opening_of, closing_of, standing_of, table_opened, table_closed}

-- ---- records (proofs/Flags.antt, proofs/Goodness.antt, proofs/Openings.antt)

-- the flags of document 01, each one bit; the other bits mean nothing
abbrev pub FlagsExactly : Type 0
FlagsExactly =
    (r : StreamRecord)
    → ((is_used r ≡ true) ↔ (r.flags / 1 % 2 ≡ 1))
    × ((receive_open r ≡ true) ↔ (r.flags / 2 % 2 ≡ 1))
    × ((send_open r ≡ true) ↔ (r.flags / 4 % 2 ≡ 1))
    × ((has_semantics r ≡ true) ↔ (r.flags / 8 % 2 ≡ 1))

-- the fixed blank: quarter 0, and no flag, so free, both sides closed, no semantics
abbrev pub BlankExactly : Type 0
BlankExactly = (blank.quarter.0 ≡ 0) × (blank.flags ≡ 0) × ((r : StreamRecord) → (is_blank r ≡ true → r ≡ blank) × (r ≡ blank → is_blank r ≡ true))

-- a free record is good exactly if it is the fixed blank, to the last bit
abbrev pub FreeGood : Type 0
FreeGood =
    (r : StreamRecord) → is_used r ≡ false
    → (is_bad_record r ≡ false → r ≡ blank) × (r ≡ blank → is_bad_record r ≡ false)

-- a used one exactly if its quarter is one and a side is open, whatever bits stand above the four flags
abbrev pub UsedGood : Type 0
UsedGood =
    (r : StreamRecord) → is_used r ≡ true
    → (is_bad_record r ≡ false → (r.quarter.0 ≤ largest_quarter) × ((receive_open r ≡ false) × (send_open r ≡ false) → ⊥))
    × (r.quarter.0 ≤ largest_quarter → ((receive_open r ≡ false) × (send_open r ≡ false) → ⊥) → is_bad_record r ≡ false)

-- a record has a quarter exactly if it is used and that is its quarter
abbrev pub HoldsExactly : Type 0
HoldsExactly =
    (q : ℕ) (r : StreamRecord)
    → (holds q r ≡ true → (is_used r ≡ true) × (r.quarter.0 ≡ q)) × (is_used r ≡ true → r.quarter.0 ≡ q → holds q r ≡ true)

-- the record of a stream that was just opened, to the last bit
abbrev pub OpenedExactly : Type 0
OpenedExactly =
    (q : Quarter) (semantics : Bool)
    → let r = opened q semantics in
    (r.quarter ≡ q) × (is_used r ≡ true) × (receive_open r ≡ true) × (send_open r ≡ true) × (has_semantics r ≡ semantics) × (r.flags / 16 ≡ 0)

-- closing a side closes it and changes nothing else: not the quarter, no other flag, no bit that means nothing
abbrev pub ClosedExactly : Type 0
ClosedExactly =
    (r : StreamRecord)
    → ((receive_open (with_closed Receive r) ≡ false) × (send_open (with_closed Receive r) ≡ send_open r))
    × ((send_open (with_closed Send r) ≡ false) × (receive_open (with_closed Send r) ≡ receive_open r))
    × ((side : Side)
    → ((with_closed side r).quarter ≡ r.quarter) × (is_used (with_closed side r) ≡ is_used r) × (has_semantics (with_closed side r) ≡ has_semantics r)
    × ((with_closed side r).flags / 16 ≡ r.flags / 16))

-- closing a side that is closed already changes no bit
abbrev pub ClosedAlready : Type 0
ClosedAlready = (r : StreamRecord) → (receive_open r ≡ false → with_closed Receive r ≡ r) × (send_open r ≡ false → with_closed Send r ≡ r)

-- ---- good tables (proofs/Goodness.antt)

-- a table is bad exactly if it is not as document 01 says
abbrev pub GoodExactly : Type 0
GoodExactly = (t : Table) → (is_bad t ≡ false → GoodTable t) × (GoodTable t → is_bad t ≡ false)

-- ---- looking a table up (proofs/Places.antt, proofs/Goodness.antt)

-- a place that was found is one of the table, and has the quarter
abbrev pub FindRight : Type 0
FindRight = (q i : ℕ) (t : Table) → find q t ≡ Some i → (holds q (get_or t i blank) ≡ true) × (i < length t)

-- where nothing is found no place has the quarter
abbrev pub FindNothing : Type 0
FindNothing = (q : ℕ) (t : Table) → find q t ≡ None → (k : ℕ) → holds q (get_or t k blank) ≡ false

-- in a good table a place that has the quarter is the one that is found
abbrev pub FoundOnce : Type 0
FoundOnce = (q i : ℕ) (t : Table) → is_bad t ≡ false → holds q (get_or t i blank) ≡ true → find q t ≡ Some i

-- ---- opening (proofs/Openings.antt)

-- the lowest free place
abbrev pub LowestTaken : Type 0
LowestTaken = (t : Table) (id : StreamId) (i : ℕ) → opening_of t id ≡ Ok i → (is_used (get_or t i blank) ≡ false) × (i < length t) × UsedBelow t i

-- the stream is found afterwards, at the place that was answered
abbrev pub OpenedFound : Type 0
OpenedFound =
    (t : Table) (id : StreamId) (semantics : Bool) (q : Quarter) (i : ℕ) → opening_of t id ≡ Ok i → quarter_of id ≡ Some q
    → find q.0 (table_opened t id semantics (Ok i)) ≡ Some i

-- and its record there is that of a stream that was just opened, with the semantics that was named
abbrev pub OpenedStored : Type 0
OpenedStored =
    (t : Table) (id : StreamId) (semantics : Bool) (q : Quarter) (i : ℕ) → opening_of t id ≡ Ok i → quarter_of id ≡ Some q
    → get_or (table_opened t id semantics (Ok i)) i blank ≡ opened q semantics

-- ---- closing (proofs/Closings.antt)

-- the place is the stream's, and it is freed exactly if no side is open any more
abbrev pub ClosedRight : Type 0
ClosedRight =
    (t : Table) (id : StreamId) (side : Side) (q : Quarter) (i : ℕ) (freed : Bool) → closing_of t id side ≡ Ok (side_closed i freed) → quarter_of id ≡ Some q
    → (i < length t) × (holds q.0 (get_or t i blank) ≡ true) × (freed ≡ both_closed (with_closed side (get_or t i blank)))

-- the record at that place afterwards: the same with that side closed, and the blank where it was freed
abbrev pub ClosedStored : Type 0
ClosedStored =
    (t : Table) (id : StreamId) (side : Side) (i : ℕ) (freed : Bool) → closing_of t id side ≡ Ok (side_closed i freed)
    → let after : StreamRecord = get_or (table_closed t side (Ok (side_closed i freed))) i blank in
    (freed ≡ true → after ≡ blank) × (freed ≡ false → after ≡ with_closed side (get_or t i blank))

-- a side that is closed twice while the other is open: the same record, the same answer, the same table
abbrev pub ClosedTwice : Type 0
ClosedTwice =
    ((side : Side) (r : StreamRecord) → both_closed (with_closed side r) ≡ false → closed_side side (closed_side side r) ≡ closed_side side r)
    × ((t : Table) (id : StreamId) (side : Side) (i : ℕ) → closing_of t id side ≡ Ok (side_closed i false)
    → let after : Table = table_closed t side (Ok (side_closed i false)) in
    (closing_of after id side ≡ Ok (side_closed i false)) × (table_closed after side (Ok (side_closed i false)) ≡ after))

-- a side that is closed already: nothing is freed, and the table stays as it is
abbrev pub ClosedAgain : Type 0
ClosedAgain =
    (t : Table) (id : StreamId) (side : Side) (i : ℕ) (freed : Bool) → closing_of t id side ≡ Ok (side_closed i freed) → with_closed side (get_or t i blank) ≡ get_or t i blank
    → (freed ≡ false) × (table_closed t side (Ok (side_closed i freed)) ≡ t)

-- a place that is freed becomes the blank, and is taken again: by any stream that is new then, where all lower places are used
abbrev pub FreedFoundAgain : Type 0
FreedFoundAgain =
    (t : Table) (id : StreamId) (side : Side) (i : ℕ) → closing_of t id side ≡ Ok (side_closed i true)
    → let after : Table = table_closed t side (Ok (side_closed i true)) in
    (get_or after i blank ≡ blank)
    × (UsedBelow t i → (new : StreamId) (q : Quarter) → quarter_of new ≡ Some q → find q.0 after ≡ None → opening_of after new ≡ Ok i)

-- a full table has no place for a new stream, and has one as soon as a stream is freed
abbrev pub FullThenFreed : Type 0
FullThenFreed =
    (t : Table) (new : StreamId) (q : Quarter) → is_bad t ≡ false → UsedBelow t (length t) → quarter_of new ≡ Some q → find q.0 t ≡ None
    → (opening_of t new ≡ Err no_free_place)
    × ((id : StreamId) (side : Side) (i : ℕ) → closing_of t id side ≡ Ok (side_closed i true)
    → opening_of (table_closed t side (Ok (side_closed i true))) new ≡ Ok i)

-- ---- the table afterwards (proofs/Closings.antt)

abbrev pub StaysGood : Type 0
StaysGood =
    (t : Table) (id : StreamId) → is_bad t ≡ false
    → ((semantics : Bool) → is_bad (table_opened t id semantics (opening_of t id)) ≡ false)
    × ((side : Side) → is_bad (table_closed t side (closing_of t id side)) ≡ false)

-- one record changes at most, at the place that was answered; none if the call was refused
abbrev pub OthersUntouched : Type 0
OthersUntouched =
    (t : Table)
    → ((id : StreamId) (semantics : Bool) (answer : Result ℕ Refusal) → length (table_opened t id semantics answer) ≡ length t)
    × ((side : Side) (answer : Result SideClosed Refusal) → length (table_closed t side answer) ≡ length t)
    × ((id : StreamId) (semantics : Bool) (i j : ℕ) → (j ≡ i → ⊥) → get_or (table_opened t id semantics (Ok i)) j blank ≡ get_or t j blank)
    × ((side : Side) (i j : ℕ) (freed : Bool) → (j ≡ i → ⊥) → get_or (table_closed t side (Ok (side_closed i freed))) j blank ≡ get_or t j blank)
    × ((id : StreamId) (semantics : Bool) (side : Side) (r : Refusal) → (table_opened t id semantics (Err r) ≡ t) × (table_closed t side (Err r) ≡ t))

-- more than 64 records, whatever they hold, are refused 15; no records are a good table with no free place
abbrev pub TooManyRefused : Type 0
TooManyRefused =
    (t : Table) → 64 < length t → (id : StreamId)
    → (opening_of t id ≡ Err bad_table) × ((side : Side) → closing_of t id side ≡ Err bad_table)

abbrev pub NoneIsGood : Type 0
NoneIsGood = (id : StreamId) (q : Quarter) → quarter_of id ≡ Some q → opening_of [] id ≡ Err no_free_place

-- a stream stands at a place exactly if the table is good and the record there is a used one of its quarter
abbrev pub StandsExactly : Type 0
StandsExactly =
    (t : Table) (id : StreamId) (i : ℕ)
    → (standing_of t id ≡ Ok i
    → (is_bad t ≡ false) × (is_request id.0 ≡ true) × (i < length t) × (holds (id.0 / 4) (get_or t i blank) ≡ true))
    × (is_bad t ≡ false → is_request id.0 ≡ true → holds (id.0 / 4) (get_or t i blank) ≡ true → standing_of t id ≡ Ok i)
