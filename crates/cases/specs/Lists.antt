-- Cases of lists of calls.
use Rattle.capsule.specs.declared.reader.Ending.TheVariants.{Clean, Truncated}
use Rattle.std.specs.Prelude.{ℕ, ◌-◌, List, [], ◌∷◌, ◌++◌, length, Some, None}
use Rattle.refusals.specs.Numbers.{refusal}
use Rattle.opening.specs.declared.Report.TheVariants.{Delivered, Skipped}
use Rattle.capsule.specs.Calls.{lent, Call, feed, close, Reply, refused, fed, closed}
use Rattle.cases.specs.Pin.{Pin, answers, endpoint, intermediary, nines}

-- the second buffer holds `front`, and is long enough
abbrev pub holding : List ℕ → List ℕ → Call
holding front p = feed p (lent (nines 4) (front ++ nines (1024 - length front)) (nines 40))

abbrev pub lends : List ℕ → Call
lends p = holding [] p

-- a type of eight bytes, byte by byte: held up to the last, and then written whole
abbrev eight_by_one : List Call
eight_by_one = lends (0xc0 ∷ []) ∷ lends (1 ∷ []) ∷ lends (2 ∷ []) ∷ lends (3 ∷ []) ∷ lends (4 ∷ []) ∷ lends (5 ∷ []) ∷ lends (6 ∷ []) ∷ lends (7 ∷ []) ∷ close ∷ close ∷ []

abbrev nothing : Reply
nothing = fed 1 0 [] None []

abbrev pub refused_between : List Call
refused_between =
    feed (0 ∷ 2 ∷ 0x61 ∷ []) (lent (nines 4) [] (nines 20))
    ∷ feed (0x62 ∷ []) (lent (nines 3) [] (nines 20))
    ∷ feed (0x62 ∷ []) (lent (nines 4) [] (nines 8))
    ∷ feed (0x62 ∷ 0x63 ∷ []) (lent (0x61 ∷ nines 3) [] (nines 20))
    ∷ close
    ∷ feed (1 ∷ []) (lent [] [] [])
    ∷ close
    ∷ []

abbrev pub on_lists : List Pin
on_lists =
    answers (intermediary 4) eight_by_one
    (nothing ∷ nothing ∷ nothing ∷ nothing ∷ nothing ∷ nothing ∷ nothing ∷ fed 1 8 (0xc0 ∷ 1 ∷ 2 ∷ 3 ∷ 4 ∷ 5 ∷ 6 ∷ 7 ∷ []) None [] ∷ closed Truncated ∷ refused (refusal 2) ∷ [])
    -- a length that is cut
    ∷ answers (endpoint 4) (lends (0x17 ∷ 0x40 ∷ []) ∷ lends (0 ∷ []) ∷ close ∷ []) (fed 2 0 [] None [] ∷ fed 1 0 [] (Some (Skipped 23 0)) [] ∷ closed Clean ∷ [])
    -- refused calls between good ones: 4, 5, and 2 after the close though the buffers are short
    ∷ answers (intermediary 4) refused_between
    (fed 3 0 [] None [] ∷ refused (refusal 4) ∷ refused (refusal 5) ∷ fed 1 0 [] (Some (Delivered 2)) (0x61 ∷ 0x62 ∷ []) ∷ closed Clean ∷ refused (refusal 2) ∷ refused (refusal 2) ∷ [])
    ∷ []
