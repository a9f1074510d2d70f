-- Cases of the capsule writer and the frame writer.
use Rattle.std.specs.Prelude.{true, List, [], ◌∷◌, Ok, Err}
use Rattle.refusals.specs.Numbers.{refusal}
use Rattle.stream_records.specs.Records.{opened}
use Rattle.cases.specs.Pin.{Pin, capsules, frames, nines}
use Rattle.cases.specs.Frames.{recorded, one, bad, twice, three'}

abbrev pub on_writers : List Pin
on_writers =
    -- the capsule writer: 15, 7, 10, 12, 13, 5
    capsules bad 5 (7 ∷ []) [] 0 (Err (refusal 15)) []
    ∷ capsules three' 5 (7 ∷ []) [] 0 (Err (refusal 7)) []
    ∷ capsules three' 8 (7 ∷ []) [] 0 (Err (refusal 10)) []
    ∷ capsules (one (recorded 1 3)) 4 (7 ∷ []) [] 0 (Err (refusal 12)) []
    ∷ capsules (one (recorded 1 7)) 4 (7 ∷ []) [] 0 (Err (refusal 13)) []
    ∷ capsules three' 4 (7 ∷ []) (nines 3) 1 (Err (refusal 5)) (nines 3)
    ∷ capsules three' 4 (7 ∷ []) (nines 5) 1 (Ok 3) (9 ∷ 0 ∷ 1 ∷ 7 ∷ 9 ∷ [])
    -- the frame writer: 15, 7, 10, 11, 12, 13, 14, 5; settings are any numbers; the path size counts quarter and payload, and equal passes
    ∷ frames bad 5 2 2 0 (7 ∷ []) [] 1 (Err (refusal 15)) []
    ∷ frames three' 5 2 2 0 (7 ∷ []) [] 1 (Err (refusal 7)) []
    ∷ frames three' 8 2 1 0 (7 ∷ []) [] 0 (Err (refusal 10)) []
    ∷ frames (one (recorded 1 3)) 4 2 1 0 (7 ∷ []) [] 0 (Err (refusal 11)) []
    ∷ frames three' 4 1 2 0 (7 ∷ []) [] 0 (Err (refusal 11)) []
    ∷ frames (one (recorded 1 3)) 4 1 1 0 (7 ∷ []) [] 0 (Err (refusal 12)) []
    ∷ frames (one (recorded 1 7)) 4 1 1 0 (7 ∷ []) [] 0 (Err (refusal 13)) []
    ∷ frames three' 4 1 1 1 (7 ∷ []) [] 0 (Err (refusal 14)) []
    ∷ frames three' 4 1 1 0 [] [] 0 (Err (refusal 14)) []
    ∷ frames three' 4 1 1 2 (7 ∷ []) (nines 2) 1 (Err (refusal 5)) (nines 2)
    ∷ frames three' 4 1 1 2 (7 ∷ []) (nines 4) 1 (Ok 2) (9 ∷ 1 ∷ 7 ∷ 9 ∷ [])
    -- quarter, not stream ID: stream 252 is 3f, stream 256 is 40 40
    ∷ frames (one (opened (record { 0 = 63 }) true)) 252 1 1 9 [] (nines 2) 0 (Ok 1) (0x3f ∷ 9 ∷ [])
    ∷ frames (one (opened (record { 0 = 64 }) true)) 256 1 1 9 [] (nines 2) 0 (Ok 2) (0x40 ∷ 0x40 ∷ [])
    -- both settings are 1, not merely equal or known
    ∷ frames three' 4 0 0 9 (7 ∷ []) [] 0 (Err (refusal 11)) []
    ∷ frames three' 4 0 1 9 (7 ∷ []) [] 0 (Err (refusal 11)) []
    ∷ frames three' 4 1 0 9 (7 ∷ []) [] 0 (Err (refusal 11)) []
    ∷ frames three' 4 2 2 9 (7 ∷ []) [] 0 (Err (refusal 11)) []
    -- the longest payload to send; 12 stands before 6, 6 before 14, and both before 5
    ∷ capsules three' 4 (nines 65535) [] 0 (Err (refusal 5)) []
    ∷ capsules three' 4 (nines 65536) [] 0 (Err (refusal 6)) []
    ∷ capsules (one (recorded 1 3)) 4 (nines 65536) [] 0 (Err (refusal 12)) []
    ∷ frames three' 4 1 1 0 (nines 65535) [] 0 (Err (refusal 14)) []
    ∷ frames three' 4 1 1 0 (nines 65536) [] 0 (Err (refusal 6)) []
    ∷ capsules twice 4 (7 ∷ []) (nines 3) 0 (Err (refusal 15)) (nines 3)
    ∷ frames twice 4 1 1 9 (7 ∷ []) (nines 3) 0 (Err (refusal 15)) (nines 3)
    ∷ capsules (one (recorded 1 15)) 4 (7 ∷ []) (nines 3) 0 (Ok 3) (0 ∷ 1 ∷ 7 ∷ [])
    ∷ frames (one (recorded 1 15)) 4 1 2 9 (7 ∷ []) (nines 2) 0 (Err (refusal 11)) (nines 2)
    ∷ frames (one (recorded 1 15)) 4 2 1 9 (7 ∷ []) (nines 2) 0 (Err (refusal 11)) (nines 2)
    ∷ frames (one (recorded 1 15)) 4 1 1 9 (7 ∷ []) (nines 2) 0 (Ok 2) (1 ∷ 7 ∷ [])
    ∷ []
