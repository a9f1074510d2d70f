-- A judged QUIC DATAGRAM payload, in numbers. `judged_of` (crate datagram) judges.
use Rattle.refusals.specs.declared.Refusal.{Refusal}
use Rattle.short_forms.specs.declared.Varint.{Varint}
use Rattle.std.specs.Prelude.{ℕ, ◌-◌, List, length, Option, Some, None, Result, Ok, Err}
use Rattle.wire.specs.declared.units.Quarter.{Quarter}
use Rattle.wire.specs.Varint.{read_varint}
use Rattle.judging.specs.declared.judge.Judged.{Judged}
use Rattle.judging.specs.declared.judge.Judged.TheVariants.{ShortFrame, QuarterTooLarge, BeyondLimit, NoStream, ReceiveClosed, NoSemantics, TooLong, Delivered}
use Rattle.judging.specs.Judging.{rule_of, quarter_in, place_in}
use Rattle.http_errors.specs.Ties.{judged_error}
use Rattle.stream_answers.specs.declared.frames.JudgedAnswer.{JudgedAnswer}
use Rattle.answers.specs.Numbers.{error_number}

-- 0 where there is none
unfoldable pub or_zero : Option ℕ → ℕ
or_zero None = 0
or_zero (Some n) = n

abbrev pub judged_numbers : ℕ → ℕ → ℕ → ℕ → ℕ → ℕ → JudgedAnswer
judged_numbers rule error quarter place start n =
    record { refusal = 0; rule = rule; quarter = quarter; place = place; start = start; length = n; error = error }

-- document 01's number of the rule and of its error, the quarter, the place, and where the payload stands in the frame
abbrev pub judged_as : Result Judged Refusal → ℕ → ℕ → JudgedAnswer
judged_as j start n = judged_numbers (or_zero (rule_of j)) (error_number (judged_error j)) (or_zero (quarter_in j)) (or_zero (place_in j)) start n

-- the payload is what follows the quarter
unfoldable pub delivered_answer : Quarter → ℕ → List ℕ → Option Varint → JudgedAnswer
delivered_answer q place frame None = judged_as (Ok (Delivered q place)) 0 0
delivered_answer q place frame (Some read) = judged_as (Ok (Delivered q place)) read.size (length frame - read.size)

unfoldable pub judged_answer : List ℕ → Result Judged Refusal → JudgedAnswer
judged_answer frame (Err why) = record { refusal = why.0; rule = 0; quarter = 0; place = 0; start = 0; length = 0; error = 0 }
judged_answer frame (Ok ShortFrame) = judged_as (Ok ShortFrame) 0 0
judged_answer frame (Ok (QuarterTooLarge q)) = judged_as (Ok (QuarterTooLarge q)) 0 0
judged_answer frame (Ok (BeyondLimit q)) = judged_as (Ok (BeyondLimit q)) 0 0
judged_answer frame (Ok (NoStream q)) = judged_as (Ok (NoStream q)) 0 0
judged_answer frame (Ok (ReceiveClosed q place)) = judged_as (Ok (ReceiveClosed q place)) 0 0
judged_answer frame (Ok (NoSemantics q place)) = judged_as (Ok (NoSemantics q place)) 0 0
judged_answer frame (Ok (TooLong q place)) = judged_as (Ok (TooLong q place)) 0 0
judged_answer frame (Ok (Delivered q place)) = delivered_answer q place frame (read_varint frame)
