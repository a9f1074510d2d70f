-- Cases of QUIC DATAGRAM frames against a stream table.
use Rattle.std.specs.Prelude.{ℕ, ◌+◌, ◌^◌, true, false, List, [], ◌∷◌, Ok, Err}
use Rattle.std.specs.Prelude.{None, Some}
use Rattle.refusals.specs.Numbers.{refusal}
use Rattle.stream_records.specs.declared.record.StreamRecord.{StreamRecord}
use Rattle.stream_records.specs.Records.{blank, opened}
use Rattle.stream_records.specs.Tables.{Table}
use Rattle.judging.specs.declared.judge.Judged.TheVariants as judged
use Rattle.judging.specs.Judging.{quarter}
use Rattle.cases.specs.Pin.{Pin, judges, rules}

abbrev pub recorded : ℕ → ℕ → StreamRecord
recorded q flags = record { quarter = record { 0 = q }; flags = flags }

abbrev pub one : StreamRecord → Table
one r = r ∷ []

-- a used record with both sides closed
abbrev pub bad : Table
bad = one (recorded 1 9)

-- stream 4 twice
abbrev pub twice : Table
twice = recorded 1 15 ∷ recorded 1 15 ∷ []

-- stream 0 behind a blank, and streams 4 and 20
abbrev pub three' : Table
three' = blank ∷ opened (record { 0 = 0 }) true ∷ opened (record { 0 = 1 }) true ∷ opened (record { 0 = 5 }) true ∷ []

abbrev pub on_frames : List Pin
on_frames =
    -- refusals stand before rules: 15, 3, 6
    judges bad (2 ^ 60 + 1) 65536 [] (Err (refusal 15)) []
    ∷ judges three' (2 ^ 60 + 1) 65536 [] (Err (refusal 3)) []
    ∷ judges three' (2 ^ 60 + 1) 65535 [] (Err (refusal 6)) []
    -- the stream limit counts quarters, at or above is beyond; it wins though the stream is in the table, and too large wins over it
    ∷ judges three' 0 9 (0 ∷ []) ((Ok (judged.BeyondLimit (quarter 0)))) []
    ∷ judges three' 6 9 (5 ∷ 7 ∷ []) ((Ok (judged.Delivered (quarter 5) 3))) (7 ∷ [])
    ∷ judges three' 5 9 (5 ∷ 7 ∷ []) ((Ok (judged.BeyondLimit (quarter 5)))) []
    ∷ judges three' 5 9 (4 ∷ 7 ∷ []) ((Ok (judged.NoStream (quarter 4)))) []
    ∷ judges three' 5 9 (7 ∷ []) ((Ok (judged.BeyondLimit (quarter 7)))) []
    ∷ judges three' 0 9 (0xd0 ∷ 0 ∷ 0 ∷ 0 ∷ 0 ∷ 0 ∷ 0 ∷ 0 ∷ []) ((Ok (judged.QuarterTooLarge (quarter (2 ^ 60))))) []
    -- quarter 0 is stream 0's, behind a blank
    ∷ judges three' 9 9 (0 ∷ 7 ∷ []) ((Ok (judged.Delivered (quarter 0) 1))) (7 ∷ [])
    -- quarter 257 is not quarter 1
    ∷ judges (one (recorded 1 15)) 600 9 (0x41 ∷ 1 ∷ []) ((Ok (judged.NoStream (quarter 257)))) []
    -- closed, abort, too long: in this order
    ∷ judges (one (recorded 1 5)) 9 0 (1 ∷ 7 ∷ []) ((Ok (judged.ReceiveClosed (quarter 1) 0))) []
    ∷ judges (one (recorded 1 7)) 9 0 (1 ∷ 7 ∷ []) ((Ok (judged.NoSemantics (quarter 1) 0))) []
    ∷ judges (one (recorded 1 15)) 9 0 (1 ∷ 7 ∷ []) ((Ok (judged.TooLong (quarter 1) 0))) []
    -- the rest is what follows the varint as it is encoded
    ∷ judges (one (recorded 1 15)) 9 3 (0x40 ∷ 1 ∷ 7 ∷ 8 ∷ 9 ∷ []) ((Ok (judged.Delivered (quarter 1) 0))) (7 ∷ 8 ∷ 9 ∷ [])
    ∷ judges (one (recorded 1 15)) 9 2 (0x40 ∷ 1 ∷ 7 ∷ 8 ∷ 9 ∷ []) ((Ok (judged.TooLong (quarter 1) 0))) []
    -- nothing is delivered by a refusal, nor behind a quarter that is too large
    ∷ judges bad 9 9 (1 ∷ 7 ∷ []) (Err (refusal 15)) []
    ∷ judges three' 9 9 (0xd0 ∷ 0 ∷ 0 ∷ 0 ∷ 0 ∷ 0 ∷ 0 ∷ 0 ∷ 7 ∷ []) ((Ok (judged.QuarterTooLarge (quarter (2 ^ 60))))) []
    -- 15 where a quarter stands twice
    ∷ judges twice 9 9 (1 ∷ []) (Err (refusal 15)) []
    -- flags 1, 2, 4, 8; higher bits mean nothing
    ∷ judges (one (recorded 1 15)) 9 9 (1 ∷ 7 ∷ []) ((Ok (judged.Delivered (quarter 1) 0))) (7 ∷ [])
    ∷ judges (one (recorded 1 (2 ^ 63 + 15))) 9 9 (1 ∷ 7 ∷ []) ((Ok (judged.Delivered (quarter 1) 0))) (7 ∷ [])
    ∷ judges (one (recorded 1 13)) 9 9 (1 ∷ 7 ∷ []) ((Ok (judged.ReceiveClosed (quarter 1) 0))) []
    ∷ judges (one (recorded 1 7)) 9 9 (1 ∷ 7 ∷ []) ((Ok (judged.NoSemantics (quarter 1) 0))) []
    ∷ rules (Err (refusal 15)) None false
    ∷ rules (Ok judged.ShortFrame) (Some 1) false
    ∷ rules ((Ok (judged.QuarterTooLarge (quarter 5)))) (Some 2) false
    ∷ rules ((Ok (judged.BeyondLimit (quarter 5)))) (Some 3) false
    ∷ rules ((Ok (judged.NoStream (quarter 5)))) (Some 4) false
    ∷ rules ((Ok (judged.ReceiveClosed (quarter 5) 3))) (Some 5) false
    ∷ rules ((Ok (judged.NoSemantics (quarter 5) 3))) (Some 6) false
    ∷ rules ((Ok (judged.TooLong (quarter 5) 3))) (Some 7) false
    ∷ rules ((Ok (judged.Delivered (quarter 5) 3))) (Some 8) true
    ∷ []
