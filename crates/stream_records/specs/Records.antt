-- A stream record (document 01, "Stream table and QUIC DATAGRAM payloads").
use Rattle.std.specs.Prelude.{ℕ, ◌-◌, ◌/◌, ◌%◌, Bool, cond, not, ◌&&◌, ◌||◌, eqb, ltb}
use Rattle.wire.specs.declared.units.Quarter.{Quarter}
use Rattle.wire.specs.Units.{largest_quarter}
use Rattle.stream_records.specs.declared.record.StreamRecord.{StreamRecord}
use Rattle.stream_records.specs.declared.record.Side.{Side}
use Rattle.stream_records.specs.declared.record.Side.TheVariants.{Receive, Send}

-- the flags: 1 used, 2 receive side open, 4 send side open, 8 semantics for datagrams; higher bits mean nothing
unfoldable pub flag : ℕ → StreamRecord → Bool
flag bit r = eqb (r.flags / bit % 2) 1

abbrev pub is_used : StreamRecord → Bool
is_used r = flag 1 r

abbrev pub receive_open : StreamRecord → Bool
receive_open r = flag 2 r

abbrev pub send_open : StreamRecord → Bool
send_open r = flag 4 r

abbrev pub has_semantics : StreamRecord → Bool
has_semantics r = flag 8 r

-- the fixed blank: free, quarter 0, both sides closed, no semantics
abbrev pub blank : StreamRecord
blank = record { quarter = record { 0 = 0 }; flags = 0 }

-- used, both sides open
abbrev pub opened : Quarter → Bool → StreamRecord
opened q semantics = record { quarter = q; flags = cond semantics 15 7 }

unfoldable pub both_closed : StreamRecord → Bool
both_closed r = not (receive_open r || send_open r)

unfoldable pub is_blank : StreamRecord → Bool
is_blank r = eqb r.quarter.0 0 && eqb r.flags 0

-- used: the quarter too large, or both sides closed; free: not the blank
unfoldable pub is_bad_record : StreamRecord → Bool
is_bad_record r = cond (is_used r) (ltb largest_quarter r.quarter.0 || both_closed r) (not (is_blank r))

-- a used record of that quarter: quarter 0 alone says nothing, since the blank has it too
unfoldable pub holds : ℕ → StreamRecord → Bool
holds q r = is_used r && eqb r.quarter.0 q

-- with a flag cleared, and no other bit changed
unfoldable pub without : ℕ → StreamRecord → StreamRecord
without bit r = cond (flag bit r) (record { quarter = r.quarter; flags = r.flags - bit }) r

-- the flag that says that a side is open
abbrev pub flag_of : Side → ℕ
flag_of Receive = 2
flag_of Send = 4

unfoldable pub with_closed : Side → StreamRecord → StreamRecord
with_closed Receive r = without 2 r
with_closed Send r = without 4 r

-- when both are closed the place becomes the blank
unfoldable pub closed_side : Side → StreamRecord → StreamRecord
closed_side side r = cond (both_closed (with_closed side r)) blank (with_closed side r)
