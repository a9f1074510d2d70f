-- Cases of capsule streams, and of single calls on a reader.
use Rattle.capsule.specs.declared.reader.Ending.TheVariants.{Clean, Truncated}
use Rattle.capsule.specs.Reader.{taking}
use Rattle.std.specs.Prelude.{◌-◌, ◌^◌, true, false, List, [], ◌∷◌, Some, None, Ok, Err}
use Rattle.refusals.specs.Numbers.{refusal}
use Rattle.wire.specs.Partial.{partial}
use Rattle.opening.specs.declared.Role.TheVariants.{Endpoint, Intermediary}
use Rattle.opening.specs.declared.Report.TheVariants.{Delivered, Dropped, Skipped, Passed}
use Rattle.planning.specs.declared.Phase.TheVariants.{InType, InLength, InValue}
use Rattle.capsule.specs.declared.reader.Reader.{Reader}
use Rattle.capsule.specs.Calls.{lent}
use Rattle.capsule.specs.Reader.{fresh}
use Rattle.cases.specs.Starred.{outcome, S}
use Rattle.cases.specs.Pin.{Pin, lists, opens, feeds, closes, endpoint, intermediary, opted_in, state, nines}

abbrev pub on_streams : List Pin
on_streams =
    -- the draft type counts in any encoding, and only it
    lists Endpoint 9 true false (0xc0 ∷ 0 ∷ 0 ∷ 0 ∷ 0 ∷ 0xff ∷ 0x37 ∷ 0xa5 ∷ 1 ∷ 0x7a ∷ []) (outcome (Delivered 1 ∷ []) ((0x7a ∷ []) ∷ []) [] Clean)
    ∷ lists Endpoint 9 false false (0xc0 ∷ 0 ∷ 0 ∷ 0 ∷ 0 ∷ 0xff ∷ 0x37 ∷ 0xa5 ∷ 1 ∷ 0x7a ∷ []) (outcome (Skipped 16725925 1 ∷ []) [] [] Clean)
    ∷ lists Endpoint 9 true false (0x80 ∷ 0xff ∷ 0x37 ∷ 0xa4 ∷ 1 ∷ 0x7a ∷ []) (outcome (Skipped 16725924 1 ∷ []) [] [] Clean)
    -- the limit itself is within the limit
    ∷ opens Endpoint 65535 false false (Ok (fresh (endpoint 65535)))
    ∷ opens Endpoint 65536 false false (Err (refusal 3))
    ∷ lists Endpoint 3 false false S (outcome (Delivered 3 ∷ Skipped 23 0 ∷ Skipped 64 2 ∷ Delivered 0 ∷ []) ((0x61 ∷ 0x62 ∷ 0x63 ∷ []) ∷ [] ∷ []) [] Clean)
    ∷ lists Endpoint 0 false false (0 ∷ 0 ∷ []) (outcome (Delivered 0 ∷ []) ([] ∷ []) [] Clean)
    ∷ lists Endpoint 0 false false (0 ∷ 1 ∷ 5 ∷ []) (outcome (Dropped 1 ∷ []) [] [] Clean)
    -- a reserved type is unknown; a zero length in two bytes ends a capsule
    ∷ lists Intermediary 9 false false (0x40 ∷ 0x40 ∷ 0 ∷ 0x17 ∷ 0x40 ∷ 0 ∷ []) (outcome (Passed 64 0 ∷ Passed 23 0 ∷ []) [] (0x40 ∷ 0x40 ∷ 0 ∷ 0x17 ∷ 0x40 ∷ 0 ∷ []) Clean)
    ∷ lists Endpoint 9 false false (0 ∷ 0x40 ∷ 0 ∷ []) (outcome (Delivered 0 ∷ []) ([] ∷ []) [] Clean)
    -- with the draft setting on type 0 counts as before; an intermediary takes the draft type, too
    ∷ lists Endpoint 9 true false (0 ∷ 1 ∷ 5 ∷ []) (outcome (Delivered 1 ∷ []) ((5 ∷ []) ∷ []) [] Clean)
    ∷ lists Intermediary 9 true false (0x80 ∷ 0xff ∷ 0x37 ∷ 0xa5 ∷ 1 ∷ 0x7a ∷ []) (outcome (Delivered 1 ∷ []) ((0x7a ∷ []) ∷ []) [] Clean)
    ∷ lists Intermediary 9 false false (0x80 ∷ 0xff ∷ 0x37 ∷ 0xa5 ∷ 1 ∷ 0x7a ∷ []) (outcome (Passed 16725925 1 ∷ []) [] (0x80 ∷ 0xff ∷ 0x37 ∷ 0xa5 ∷ 1 ∷ 0x7a ∷ []) Clean)
    -- an empty piece: nothing happens, or the refusal of any other
    ∷ feeds (fresh (intermediary 2)) [] (lent (nines 2) [] (nines 8)) (fresh (intermediary 2)) (Ok (taking 0 0 None)) (lent (nines 2) [] (nines 8))
    ∷ feeds (fresh (intermediary 2)) [] (lent (nines 1) [] (nines 8)) (fresh (intermediary 2)) (Err (refusal 4)) (lent (nines 1) [] (nines 8))
    ∷ feeds (fresh (intermediary 2)) [] (lent (nines 2) [] (nines 7)) (fresh (intermediary 2)) (Err (refusal 5)) (lent (nines 2) [] (nines 7))
    ∷ feeds (state (intermediary 2) (InType (partial 0 0)) true) [] (lent [] [] []) (state (intermediary 2) (InType (partial 0 0)) true) (Err (refusal 2)) (lent [] [] [])
    -- 4 and 5 go by the lengths alone, and 4 stands first; exactly piece + 8
    ∷ feeds (fresh (intermediary 2)) (5 ∷ []) (lent (nines 1) [] []) (fresh (intermediary 2)) (Err (refusal 4)) (lent (nines 1) [] [])
    ∷ feeds (fresh (intermediary 2)) (5 ∷ []) (lent (nines 2) [] (nines 8)) (fresh (intermediary 2)) (Err (refusal 5)) (lent (nines 2) [] (nines 8))
    ∷ feeds (fresh (intermediary 2)) (5 ∷ []) (lent (nines 2) [] (nines 9)) (state (intermediary 2) (InLength 5 (partial 0 0)) false) (Ok (taking 1 1 None)) (lent (nines 2) [] (5 ∷ nines 8))
    ∷ feeds (fresh (endpoint 0)) (5 ∷ []) (lent [] [] []) (state (endpoint 0) (InLength 5 (partial 0 0)) false) (Ok (taking 1 0 None)) (lent [] [] [])
    ∷ feeds (fresh (endpoint 1)) (5 ∷ []) (lent [] [] []) (fresh (endpoint 1)) (Err (refusal 4)) (lent [] [] [])
    -- a partial value stands at its places, the rest as lent; a longer one stores nothing
    ∷ feeds (fresh (endpoint 6)) (0 ∷ 5 ∷ 0x61 ∷ 0x62 ∷ []) (lent (nines 7) [] []) (state (endpoint 6) (InValue 0 5 3) false) (Ok (taking 4 0 None)) (lent (0x61 ∷ 0x62 ∷ nines 5) [] [])
    ∷ feeds (state (endpoint 6) (InValue 0 5 3) false) (0x63 ∷ 0x64 ∷ 0x65 ∷ 0x66 ∷ []) (lent (0x61 ∷ 0x62 ∷ nines 5) [] []) (fresh (endpoint 6)) (Ok (taking 3 0 (Some (Delivered 5)))) (lent (0x61 ∷ 0x62 ∷ 0x63 ∷ 0x64 ∷ 0x65 ∷ nines 2) [] [])
    ∷ feeds (fresh (endpoint 1)) (0 ∷ 2 ∷ 0x61 ∷ []) (lent (nines 2) [] []) (state (endpoint 1) (InValue 0 2 1) false) (Ok (taking 3 0 None)) (lent (nines 2) [] [])
    ∷ closes (state (endpoint 6) (InValue 0 5 3) false) (state (endpoint 6) (InValue 0 5 3) true) (Ok Truncated)
    -- the last byte of the longest value reports the full length
    ∷ feeds (state (endpoint 6) (InValue 5 (2 ^ 62 - 1) 1) false) (7 ∷ 8 ∷ []) (lent (nines 6) [] []) (fresh (endpoint 6)) (Ok (taking 1 0 (Some (Skipped 5 (2 ^ 62 - 1))))) (lent (nines 6) [] [])
    -- a header is not read out of a value
    ∷ feeds (state (endpoint 6) (InValue 5 3 2) false) (0 ∷ 0 ∷ 0 ∷ 0 ∷ []) (lent (nines 6) [] []) (fresh (endpoint 6)) (Ok (taking 2 0 (Some (Skipped 5 3)))) (lent (nines 6) [] [])
    -- a clean close inside a header, and between capsules
    ∷ closes (state (endpoint 6) (InType (partial 1 0x40)) false) (state (endpoint 6) (InType (partial 1 0x40)) true) (Ok Truncated)
    ∷ closes (state (endpoint 6) (InLength 5 (partial 0 0)) false) (state (endpoint 6) (InLength 5 (partial 0 0)) true) (Ok Truncated)
    ∷ closes (fresh (endpoint 6)) (state (endpoint 6) (InType (partial 0 0)) true) (Ok Clean)
    ∷ closes (state (endpoint 6) (InType (partial 0 0)) true) (state (endpoint 6) (InType (partial 0 0)) true) (Err (refusal 2))
    ∷ []

-- states that cannot be made: refused with 1, before 2, 4, 18 and 5, and handed back
abbrev pub unmakeable : List Reader
unmakeable =
    state (endpoint 0) (InType (partial 0 1)) false
    ∷ state (endpoint 0) (InType (partial 2 0x10000)) false
    ∷ state (endpoint 0) (InType (partial 1 0x3f)) true
    ∷ state (endpoint 0) (InType (partial 8 0)) false
    ∷ state (endpoint 0) (InType (partial 200 0)) false
    ∷ state (endpoint 0) (InLength (2 ^ 62) (partial 0 0)) false
    ∷ state (endpoint 0) (InLength 5 (partial 2 0x4040)) false
    ∷ state (endpoint 0) (InValue (2 ^ 62) 3 1) false
    ∷ state (endpoint 0) (InValue 5 (2 ^ 62) 1) false
    ∷ state (endpoint 0) (InValue 5 3 0) false
    ∷ state (endpoint 0) (InValue 5 3 4) false
    ∷ state (endpoint 65536) (InType (partial 0 0)) false
    ∷ state (opted_in false) (InValue 1 1025 1) false
    ∷ []

abbrev pub both_refused : List Reader → List Pin
both_refused [] = []
both_refused (r ∷ rs) =
    feeds r (1 ∷ []) (lent (nines 1) [] (nines 2)) r (Err (refusal 1)) (lent (nines 1) [] (nines 2))
    ∷ closes r r (Err (refusal 1))
    ∷ both_refused rs
