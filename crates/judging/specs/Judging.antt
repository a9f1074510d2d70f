-- A received QUIC DATAGRAM payload (RFC 9297, section 2.1; document 01, "Stream table and QUIC DATAGRAM payloads").
use Rattle.short_forms.specs.declared.Varint.{Varint}
use Rattle.short_forms.specs.Short.{varint_of}
use Rattle.std.specs.Prelude.{ℕ, ◌-◌, ◌^◌, ◌≤◌, ◌<◌, ◌≡◌, ◌↔◌, Bool, true, false, cond, List, [], ◌∷◌, length, drop, leb, ltb, Option, Some, None, Result, Ok, Err}
use Rattle.refusals.specs.Numbers.{limit_too_large, number_too_large, bad_table}
use Rattle.refusals.specs.declared.Refusal.{Refusal}
use Rattle.refusals.specs.First.{Order, First}
use Rattle.wire.specs.declared.units.Quarter.{Quarter}
use Rattle.wire.specs.Varint.{read_varint}
use Rattle.wire.specs.Units.{largest_quarter}
use Rattle.stream_records.specs.declared.record.StreamRecord.{StreamRecord}
use Rattle.stream_records.specs.declared.answers.Entry.{Entry}
use Rattle.stream_records.specs.Records.{receive_open, has_semantics}
use Rattle.stream_records.specs.Tables.{Table, is_bad, entry_of}
use Rattle.stream_records.specs.Words.{InTable, Any}
use Rattle.judging.specs.declared.judge.Judged.{Judged}
use Rattle.judging.specs.declared.judge.Judged.TheVariants.{ShortFrame, QuarterTooLarge, BeyondLimit, NoStream, ReceiveClosed, NoSemantics, TooLong, Delivered}

abbrev pub quarter : ℕ → Quarter
quarter q = record { 0 = q }

-- rules 5 to 8, of the stream's record at a place
unfoldable pub judged_record : StreamRecord → Quarter → ℕ → ℕ → ℕ → Judged
judged_record r q place limit rest =
    cond (receive_open r) (cond (has_semantics r) (cond (leb rest limit) (Delivered q place) (TooLong q place)) (NoSemantics q place)) (ReceiveClosed q place)

-- rule 4
unfoldable pub judged_entry : Option Entry → ℕ → ℕ → ℕ → Judged
judged_entry None q limit rest = NoStream (quarter q)
judged_entry (Some found) q limit rest = judged_record found.stream (quarter q) found.place limit rest

-- rules 2 and 3: a quarter is at most 2^60-1, and below the stated stream limit
abbrev pub if_within : ℕ → ℕ → Judged → Judged
if_within streams q next = cond (leb q largest_quarter) (cond (ltb q streams) next (BeyondLimit (quarter q))) (QuarterTooLarge (quarter q))

-- rule 1: the payload, of n bytes, starts with the quarter as a varint
unfoldable pub judged_read : Table → ℕ → ℕ → ℕ → Option Varint → Judged
judged_read t streams limit n None = ShortFrame
judged_read t streams limit n (Some read) = if_within streams read.value (judged_entry (entry_of read.value t) read.value limit (n - read.size))

-- refusals 3 and 6, and then the rules
abbrev pub if_accepted : ℕ → ℕ → Judged → Result Judged Refusal
if_accepted streams limit rules = cond (leb limit 65535) (cond (leb streams (2 ^ 60)) (Ok rules) (Err number_too_large)) (Err limit_too_large)

-- a table, the stated stream limit, the datagram limit, and a frame's payload: 15, 3, 6, and then the rules
unfoldable pub judged_of : Table → ℕ → ℕ → List ℕ → Result Judged Refusal
judged_of t streams limit frame =
    cond (is_bad t) (Err bad_table) (if_accepted streams limit (judged_read t streams limit (length frame) (read_varint frame)))

-- the numbers of the rules; a refusal is no rule
unfoldable pub rule_of : Result Judged Refusal → Option ℕ
rule_of (Err r) = None
rule_of (Ok ShortFrame) = Some 1
rule_of (Ok (QuarterTooLarge q)) = Some 2
rule_of (Ok (BeyondLimit q)) = Some 3
rule_of (Ok (NoStream q)) = Some 4
rule_of (Ok (ReceiveClosed q place)) = Some 5
rule_of (Ok (NoSemantics q place)) = Some 6
rule_of (Ok (TooLong q place)) = Some 7
rule_of (Ok (Delivered q place)) = Some 8

-- the quarter, wherever one was read; the place, wherever a record was found. Document 01 has the place of rule 8 alone
unfoldable pub quarter_in : Result Judged Refusal → Option ℕ
quarter_in (Err r) = None
quarter_in (Ok ShortFrame) = None
quarter_in (Ok (QuarterTooLarge q)) = Some q.0
quarter_in (Ok (BeyondLimit q)) = Some q.0
quarter_in (Ok (NoStream q)) = Some q.0
quarter_in (Ok (ReceiveClosed q place)) = Some q.0
quarter_in (Ok (NoSemantics q place)) = Some q.0
quarter_in (Ok (TooLong q place)) = Some q.0
quarter_in (Ok (Delivered q place)) = Some q.0

unfoldable pub place_in : Result Judged Refusal → Option ℕ
place_in (Err r) = None
place_in (Ok ShortFrame) = None
place_in (Ok (QuarterTooLarge q)) = None
place_in (Ok (BeyondLimit q)) = None
place_in (Ok (NoStream q)) = None
place_in (Ok (ReceiveClosed q place)) = Some place
place_in (Ok (NoSemantics q place)) = Some place
place_in (Ok (TooLong q place)) = Some place
place_in (Ok (Delivered q place)) = Some place

unfoldable pub entry_place : Option Entry → Option ℕ
entry_place None = None
entry_place (Some found) = Some found.place

-- ---- what judging promises: the answer, and its number by document 01's list of rules

-- the frame starts with a quarter that is as P says; `rest` is the length of what follows it
abbrev pub QuarterRead : List ℕ → (ℕ → ℕ → Type 0) → Type 0
QuarterRead frame P = (q : ℕ) × (size : ℕ) × (read_varint frame ≡ Some (varint_of q size)) × P q (length frame - size)

-- "First match wins"
abbrev pub rules : Table → ℕ → ℕ → List ℕ → Order
rules t streams limit frame =
    (1, read_varint frame ≡ None)
    ∷ (2, QuarterRead frame (λ q rest. 2 ^ 60 - 1 < q))
    ∷ (3, QuarterRead frame (λ q rest. streams ≤ q))
    ∷ (4, QuarterRead frame (λ q rest. InTable t q Any → ⊥))
    ∷ (5, QuarterRead frame (λ q rest. InTable t q (λ r. receive_open r ≡ false)))
    ∷ (6, QuarterRead frame (λ q rest. InTable t q (λ r. has_semantics r ≡ false)))
    ∷ (7, QuarterRead frame (λ q rest. limit < rest))
    ∷ (8, Unit {0})
    ∷ []

pub record Judges (t : Table) (streams limit : ℕ) (frame : List ℕ) (j : Result Judged Refusal) : Type 0 where
  pub answer : j ≡ judged_of t streams limit frame
  pub rule : (n : ℕ) → (rule_of j ≡ Some n) ↔ ((why : Refusal) → j ≡ Err why → ⊥) × First n (rules t streams limit frame)

-- ---- the payload: what follows the quarter, where it is delivered

unfoldable pub after_quarter : Option Varint → List ℕ → List ℕ
after_quarter None frame = []
after_quarter (Some read) frame = drop read.size frame

unfoldable pub is_delivered : Result Judged Refusal → Bool
is_delivered (Err r) = false
is_delivered (Ok ShortFrame) = false
is_delivered (Ok (QuarterTooLarge q)) = false
is_delivered (Ok (BeyondLimit q)) = false
is_delivered (Ok (NoStream q)) = false
is_delivered (Ok (ReceiveClosed q place)) = false
is_delivered (Ok (NoSemantics q place)) = false
is_delivered (Ok (TooLong q place)) = false
is_delivered (Ok (Delivered q place)) = true

unfoldable pub if_delivered : Result Judged Refusal → List ℕ → List ℕ
if_delivered j payload = cond (is_delivered j) payload []

unfoldable pub payload_of : Table → ℕ → ℕ → List ℕ → List ℕ
payload_of t streams limit frame = if_delivered (judged_of t streams limit frame) (after_quarter (read_varint frame) frame)
