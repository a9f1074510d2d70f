-- Cases that fix how document 01 is read of stream tables. One statement carries them: `Pinned`, proved in proofs/Cases.antt.
use Rattle.refusals.specs.declared.Refusal.{Refusal}
use Rattle.stream_records.specs.Tables.{side_closed}
use Rattle.std.specs.Prelude.{◌≡◌, ℕ, ◌+◌, ◌-◌, ◌^◌, Bool, true, false, List, [], ◌∷◌, map, replicate, Option, Some, None, Result, Ok, Err}
use Rattle.refusals.specs.Numbers.{refusal}
use Rattle.wire.specs.declared.units.StreamId.{StreamId}
use Rattle.stream_records.specs.declared.record.StreamRecord.{StreamRecord}
use Rattle.stream_records.specs.declared.record.Side.{Side}
use Rattle.stream_records.specs.declared.record.Side.TheVariants.{Receive, Send}
use Rattle.stream_records.specs.declared.answers.SideClosed.{SideClosed}
use Rattle.stream_records.specs.Records.{blank, closed_side}
use Rattle.stream_records.specs.Tables.{Table, is_bad, find, opening_of, closing_of, table_opened, table_closed}

abbrev stream : ℕ → StreamId
stream n = record { 0 = n }

-- a record: its quarter and its flags
abbrev rec : ℕ → ℕ → StreamRecord
rec q flags = record { quarter = record { 0 = q }; flags = flags }

-- one side closed after the other, each in the table that the one before left
unfoldable pub closings : Table → StreamId → List Side → List (Result SideClosed Refusal)
closings t id [] = []
closings t id (side ∷ sides) = closing_of t id side ∷ closings (table_closed t side (closing_of t id side)) id sides

pub data Pin : Type 0 where
  -- a table, and whether it is bad
  tables : Table → Bool → Pin
  -- a table and a quarter, and where it stands
  finds : Table → ℕ → Option ℕ → Pin
  -- a table and a stream ID
  opens : Table → ℕ → Result ℕ Refusal → Pin
  closes : Table → ℕ → List Side → List (Result SideClosed Refusal) → Pin
  -- a table, a stream ID and its semantics, and the table after opening
  leaves : Table → ℕ → Bool → Table → Pin
  -- a record and a side, and the record with that side closed
  closed : StreamRecord → Side → StreamRecord → Pin

-- what a case asks for, and what it should be
pub data Answer : Type 0 where
  is_bad_table : Bool → Answer
  found : Option ℕ → Answer
  opened : Result ℕ Refusal → Answer
  sides : List (Result SideClosed Refusal) → Answer
  table : Table → Answer
  a_record : StreamRecord → Answer

abbrev pub got : Pin → Answer
got (tables t b) = is_bad_table (is_bad t)
got (finds t q f) = found (find q t)
got (opens t id o) = opened (opening_of t (stream id))
got (closes t id ss cs) = sides (closings t (stream id) ss)
got (leaves t id semantics t') = table (table_opened t (stream id) semantics (opening_of t (stream id)))
got (closed r side r') = a_record (closed_side side r)

abbrev pub expected : Pin → Answer
expected (tables t b) = is_bad_table b
expected (finds t q f) = found f
expected (opens t id o) = opened o
expected (closes t id ss cs) = sides cs
expected (leaves t id semantics t') = table t'
expected (closed r side r') = a_record r'

-- streams 0 and 4, both sides open
abbrev full : Table
full = rec 0 15 ∷ rec 1 7 ∷ []

abbrev pub on_tables : List Pin
on_tables =
    tables [] false
    ∷ tables full false
    -- used with both sides closed
    ∷ tables (rec 1 9 ∷ []) true
    ∷ tables (rec 1 13 ∷ []) false
    ∷ tables (rec 1 11 ∷ []) false
    -- free, and not the blank
    ∷ tables (rec 1 0 ∷ []) true
    ∷ tables (rec 0 2 ∷ []) true
    ∷ tables (rec 0 4 ∷ []) true
    ∷ tables (rec 0 8 ∷ []) true
    -- the largest quarter
    ∷ tables (rec (2 ^ 60 - 1) 15 ∷ []) false
    ∷ tables (rec (2 ^ 60) 15 ∷ []) true
    -- twice, whatever the sides
    ∷ tables (rec 1 15 ∷ blank ∷ rec 1 15 ∷ []) true
    ∷ tables (rec 1 11 ∷ rec 1 5 ∷ []) true
    -- the blank's quarter is stream 0's too
    ∷ tables (blank ∷ blank ∷ []) false
    ∷ tables (blank ∷ rec 0 15 ∷ []) false
    ∷ finds (blank ∷ rec 0 15 ∷ []) 0 (Some 1)
    ∷ finds (blank ∷ blank ∷ []) 0 None
    -- lengths
    ∷ tables (replicate 64 blank) false
    ∷ tables (replicate 65 blank) true
    -- a bad record, and a quarter that stands twice, behind a good one; the first place is found even then
    ∷ tables (blank ∷ rec 1 9 ∷ []) true
    ∷ tables (blank ∷ rec 1 15 ∷ rec 1 15 ∷ []) true
    ∷ finds (rec 1 15 ∷ rec 1 15 ∷ []) 1 (Some 0)
    -- a free record is the blank to the last bit; in a used one the bits above the four flags mean nothing
    ∷ tables (rec 0 16 ∷ []) true
    ∷ tables (rec 0 240 ∷ []) true
    ∷ tables (rec 0 (2 ^ 63) ∷ []) true
    ∷ tables (rec 0 1 ∷ []) true
    ∷ tables (rec 1 (2 ^ 63 + 15) ∷ rec 2 29 ∷ []) false
    -- quarters that are the same by their last byte alone
    ∷ tables (rec 1 15 ∷ rec 257 15 ∷ []) false
    ∷ finds (rec 1 15 ∷ []) 257 None
    ∷ []

abbrev pub on_calls : List Pin
on_calls =
    opens (blank ∷ []) 0 (Ok 0)
    ∷ opens (rec 1 15 ∷ blank ∷ blank ∷ []) 0 (Ok 1)
    ∷ opens (blank ∷ rec 0 15 ∷ []) 0 (Err (refusal 9))
    -- both sides open, with the semantics that was named; a refused call leaves the table
    ∷ leaves (rec 0 15 ∷ blank ∷ []) 4 false full
    ∷ leaves (rec 0 15 ∷ blank ∷ []) 4 true (rec 0 15 ∷ rec 1 15 ∷ [])
    ∷ leaves full 8 true full
    -- no place at all
    ∷ opens [] 0 (Err (refusal 8))
    ∷ closes [] 0 (Send ∷ []) (Err (refusal 10) ∷ [])
    -- 9 is given though a place is free, and stands before 8
    ∷ opens (rec 1 15 ∷ blank ∷ []) 4 (Err (refusal 9))
    ∷ opens full 4 (Err (refusal 9))
    ∷ opens full 8 (Err (refusal 8))
    -- 15 stands before 7, and 7 before the rest
    ∷ opens (rec 1 9 ∷ []) 5 (Err (refusal 15))
    ∷ opens (replicate 65 blank) 0 (Err (refusal 15))
    ∷ opens full 5 (Err (refusal 7))
    ∷ opens full (2 ^ 62) (Err (refusal 7))
    ∷ closes (rec 1 9 ∷ []) 5 (Send ∷ []) (Err (refusal 15) ∷ [])
    ∷ closes (replicate 65 blank) 0 (Send ∷ []) (Err (refusal 15) ∷ [])
    ∷ closes full 5 (Send ∷ []) (Err (refusal 7) ∷ [])
    -- 15 where a quarter stands twice
    ∷ opens (rec 1 15 ∷ rec 1 15 ∷ blank ∷ []) 20 (Err (refusal 15))
    ∷ closes (rec 1 15 ∷ rec 1 15 ∷ blank ∷ []) 4 (Send ∷ []) (Err (refusal 15) ∷ [])
    -- receive, receive, send, send: not freed, not freed, freed, not in the table
    ∷ closes full 4 (Receive ∷ Receive ∷ Send ∷ Send ∷ [])
    (Ok (side_closed 1 false) ∷ Ok (side_closed 1 false) ∷ Ok (side_closed 1 true) ∷ Err (refusal 10) ∷ [])
    ∷ closes full 0 (Send ∷ Receive ∷ [])
    (Ok (side_closed 0 false) ∷ Ok (side_closed 0 true) ∷ [])
    -- the semantics stays, whichever side is closed
    ∷ closed (rec 1 15) Receive (rec 1 13)
    ∷ closed (rec 1 15) Send (rec 1 11)
    -- bits that mean nothing stay at a closing, and are lost with the blank; closing a closed side changes no bit
    ∷ closed (rec 1 31) Receive (rec 1 29)
    ∷ closed (rec 1 29) Receive (rec 1 29)
    ∷ closed (rec 1 29) Send blank
    ∷ closed (rec 1 (2 ^ 63 + 15)) Send (rec 1 (2 ^ 63 + 11))
    ∷ closed (rec 1 27) Receive blank
    ∷ []

abbrev pub Pinned : Type 0
Pinned = (map got on_tables ≡ map expected on_tables) × (map got on_calls ≡ map expected on_calls)
