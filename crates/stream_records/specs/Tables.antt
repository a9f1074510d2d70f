-- The stream table: a row of at most 64 records (document 01, "Stream table and QUIC DATAGRAM payloads").
use Rattle.refusals.specs.declared.Refusal.{Refusal}
use Rattle.wire.specs.declared.units.Quarter.{Quarter}
use Rattle.std.specs.Prelude.{ℕ, suc, Bool, false, cond, ◌&&◌, ◌||◌, List, [], ◌∷◌, length, get_or, set, ltb, Option, Some, None, Result, Ok, Err}
use Rattle.refusals.specs.Numbers.{not_a_request_stream, no_free_place, already_in_table, not_in_table, bad_table}
use Rattle.wire.specs.declared.units.StreamId.{StreamId}
use Rattle.wire.specs.Units.{quarter_of}
use Rattle.stream_records.specs.declared.record.StreamRecord.{StreamRecord}
use Rattle.stream_records.specs.declared.record.Side.{Side}
use Rattle.stream_records.specs.declared.answers.Entry.{Entry}
use Rattle.stream_records.specs.declared.answers.SideClosed.{SideClosed}
use Rattle.stream_records.specs.Records.{blank, opened, is_used, both_closed, is_bad_record, holds, with_closed, closed_side}

abbrev pub Table : Type 0
Table = List StreamRecord

-- ---- bad tables

unfoldable pub any_bad : Table → Bool
any_bad [] = false
any_bad (r ∷ rs) = is_bad_record r || any_bad rs

unfoldable pub stands_in : ℕ → Table → Bool
stands_in q [] = false
stands_in q (r ∷ rs) = holds q r || stands_in q rs

-- a used quarter stands twice
unfoldable pub stands_twice : Table → Bool
stands_twice [] = false
stands_twice (r ∷ rs) = (is_used r && stands_in r.quarter.0 rs) || stands_twice rs

unfoldable pub is_bad : Table → Bool
is_bad t = ltb 64 (length t) || (any_bad t || stands_twice t)

-- ---- places

unfoldable pub next : Option ℕ → Option ℕ
next None = None
next (Some i) = Some (suc i)

abbrev pub table_entry : ℕ → StreamRecord → Entry
table_entry place stream = record { place = place; stream = stream }

abbrev pub side_closed : ℕ → Bool → SideClosed
side_closed place freed = record { place = place; freed = freed }

-- where the record of a quarter stands
unfoldable pub find : ℕ → Table → Option ℕ
find q [] = None
find q (r ∷ rs) = cond (holds q r) (Some 0) (next (find q rs))

-- the place and the record there
unfoldable pub entry_at : Table → Option ℕ → Option Entry
entry_at t None = None
entry_at t (Some i) = Some (table_entry i (get_or t i blank))

abbrev pub entry_of : ℕ → Table → Option Entry
entry_of q t = entry_at t (find q t)

unfoldable pub lookup_of : ℕ → Table → Result (Option Entry) Refusal
lookup_of q t = cond (is_bad t) (Err bad_table) (Ok (entry_of q t))

-- the quarter that a stream ID is looked for by. Where the ID is no request stream's it is 0, and every call that looks for it answers 7 then (15 of
-- a bad table), whatever is found
unfoldable pub sought_in : Option Quarter → ℕ
sought_in None = 0
sought_in (Some q) = q.0

abbrev pub sought : StreamId → ℕ
sought id = sought_in (quarter_of id)

-- the lowest free place
unfoldable pub lowest_free : Table → Option ℕ
lowest_free [] = None
lowest_free (r ∷ rs) = cond (is_used r) (next (lowest_free rs)) (Some 0)

-- ---- opening: 15, 7, 9, 8

unfoldable pub open_at : Option ℕ → Result ℕ Refusal
open_at None = Err no_free_place
open_at (Some i) = Ok i

unfoldable pub open_entry : Option Entry → Option ℕ → Result ℕ Refusal
open_entry (Some found) free = Err already_in_table
open_entry None free = open_at free

unfoldable pub opening_of : Table → StreamId → Result ℕ Refusal
opening_of t id =
    cond (is_bad t)
    (Err bad_table)
    (elim (quarter_of id) [ None ↦ Err not_a_request_stream | Some q ↦ open_entry (entry_of q.0 t) (lowest_free t) ])

-- ---- closing a side: 15, 7, 10

-- the place, and whether it becomes the blank
unfoldable pub close_entry : Side → Option Entry → Result SideClosed Refusal
close_entry side None = Err not_in_table
close_entry side (Some found) = Ok (side_closed found.place (both_closed (with_closed side found.stream)))

unfoldable pub closing_of : Table → StreamId → Side → Result SideClosed Refusal
closing_of t id side =
    cond (is_bad t)
    (Err bad_table)
    (elim (quarter_of id) [ None ↦ Err not_a_request_stream | Some q ↦ close_entry side (entry_of q.0 t) ])

-- ---- where a stream stands: 15, 7, 10

unfoldable pub stand_entry : Option Entry → Result ℕ Refusal
stand_entry None = Err not_in_table
stand_entry (Some found) = Ok found.place

unfoldable pub standing_of : Table → StreamId → Result ℕ Refusal
standing_of t id =
    cond (is_bad t)
    (Err bad_table)
    (elim (quarter_of id) [ None ↦ Err not_a_request_stream | Some q ↦ stand_entry (entry_of q.0 t) ])

-- ---- the table afterwards

unfoldable pub table_opened : Table → StreamId → Bool → Result ℕ Refusal → Table
table_opened t id semantics (Err r) = t
table_opened t id semantics (Ok i) = elim (quarter_of id) [ None ↦ t | Some q ↦ set t i (opened q semantics) ]

unfoldable pub table_closed : Table → Side → Result SideClosed Refusal → Table
table_closed t side (Err r) = t
table_closed t side (Ok side') = set t side'.place (closed_side side (get_or t side'.place blank))
