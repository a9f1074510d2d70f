-- Cases of address capsules (document 02, request 4).
use Rattle.capsule.specs.declared.reader.Ending.TheVariants.{Clean, Truncated}
use Rattle.capsule.specs.Reader.{taking}
use Rattle.std.specs.Prelude.{ℕ, ◌-◌, ◌^◌, ◌≡◌, true, false, List, [], ◌∷◌, ◌++◌, replicate, Some, None, Ok, Err}
use Rattle.refusals.specs.Numbers.{refusal}
use Rattle.wire.specs.Partial.{partial}
use Rattle.addresses.specs.Cases.{many}
use Rattle.opening.specs.declared.Role.TheVariants.{Endpoint, Intermediary}
use Rattle.opening.specs.declared.Opening.{Opening}
use Rattle.opening.specs.declared.Report.{Report}
use Rattle.opening.specs.declared.Report.TheVariants.{Delivered, Skipped, Passed, AddressDelivered, Malformed}
use Rattle.planning.specs.declared.Phase.TheVariants.{InType, InLength, InValue}
use Rattle.capsule.specs.Calls.{lent, Call, feed, close, Reply, refused, fed, closed, run}
use Rattle.capsule.specs.Book.{new_book, book_call}
use Rattle.capsule.specs.Reader.{opening, fresh, reader_call}
use Rattle.cases.specs.Starred.{outcome}
use Rattle.cases.specs.Pin.{Pin, lists, opens, makeable, feeds, answers, endpoint, intermediary, opted_in, passing, state, nines}
use Rattle.cases.specs.Lists.{holding, lends}

-- an ADDRESS_ASSIGN of one entry, and one of another IP version
abbrev assign : List ℕ
assign = 0 ∷ 4 ∷ 0x0a ∷ 0 ∷ 0 ∷ 1 ∷ 0x20 ∷ []

abbrev other_version : List ℕ
other_version = 0 ∷ 5 ∷ 0 ∷ 0 ∷ 0 ∷ 0 ∷ 0 ∷ []

-- an ADDRESS_REQUEST of one entry
abbrev request : List ℕ
request = 1 ∷ 4 ∷ 0x0a ∷ 0 ∷ 0 ∷ 1 ∷ 0x20 ∷ []

abbrev route : List ℕ
route = 4 ∷ 0x0a ∷ 0 ∷ 0 ∷ 0 ∷ 0x0a ∷ 0 ∷ 0 ∷ 0xff ∷ 0 ∷ []

abbrev ends : ℕ → Report → Reply
ends n r = fed n 0 [] (Some r) []

-- refused calls between good ones: 18, then 2 after a malformed capsule though the buffers are short
abbrev pub short_between : List Call
short_between =
    lends (2 ∷ 7 ∷ 1 ∷ [])
    ∷ feed (4 ∷ []) (lent (nines 4) (nines 1023) (nines 40))
    ∷ holding (1 ∷ []) (4 ∷ 0x0a ∷ 0 ∷ 0 ∷ 1 ∷ 0x20 ∷ 2 ∷ 0 ∷ [])
    ∷ holding request (2 ∷ 0 ∷ 0 ∷ [])
    ∷ feed [] (lent [] [] [])
    ∷ close
    ∷ []

-- the second buffer is changed inside a value: by what the reader is lent the capsule is malformed, by what it was fed it is good
abbrev pub changed_between : List Call
changed_between = lends (2 ∷ 7 ∷ 1 ∷ []) ∷ holding (0 ∷ []) (4 ∷ 0x0a ∷ 0 ∷ 0 ∷ 1 ∷ 0x20 ∷ []) ∷ []

pub record Exchange : Type 0 where
  pub calls : List Call
  pub replies : List Reply

abbrev exchange : List Call → List Reply → Exchange
exchange cs rs = record { calls = cs; replies = rs }

-- calls on an endpoint that opted in, and their answers, whatever its draft setting
abbrev pub exchanges : List Exchange
exchanges =
    -- no entry: of a REQUEST malformed at its length field, and nothing after it is consumed; of the others good
    exchange (lends (2 ∷ 0 ∷ 0 ∷ 0 ∷ []) ∷ close ∷ lends [] ∷ []) (ends 2 (Malformed 2 0) ∷ refused (refusal 2) ∷ refused (refusal 2) ∷ [])
    ∷ exchange (lends (1 ∷ 0 ∷ 3 ∷ []) ∷ lends (3 ∷ 0 ∷ []) ∷ close ∷ []) (ends 2 (AddressDelivered 1 0) ∷ ends 2 (AddressDelivered 3 0) ∷ closed Clean ∷ [])
    -- over 1,024 bytes: at its length field, in one piece and cut in it
    ∷ exchange (lends (1 ∷ 0x44 ∷ 1 ∷ 0 ∷ 0 ∷ []) ∷ close ∷ []) (ends 3 (Malformed 1 1025) ∷ refused (refusal 2) ∷ [])
    ∷ exchange (lends (1 ∷ 0x44 ∷ []) ∷ lends (1 ∷ 0 ∷ []) ∷ close ∷ []) (fed 2 0 [] None [] ∷ ends 1 (Malformed 1 1025) ∷ refused (refusal 2) ∷ [])
    ∷ exchange (lends (3 ∷ replicate 8 0xff) ∷ lends [] ∷ []) (ends 9 (Malformed 3 (2 ^ 62 - 1)) ∷ refused (refusal 2) ∷ [])
    -- else at its last byte, though an earlier one is wrong; a good one with its value
    ∷ exchange (lends (1 ∷ 7 ∷ other_version ++ (0x17 ∷ 0 ∷ [])) ∷ close ∷ []) (ends 9 (Malformed 1 7) ∷ refused (refusal 2) ∷ [])
    ∷ exchange (lends (1 ∷ 7 ∷ 0 ∷ 5 ∷ []) ∷ holding (0 ∷ 5 ∷ []) (0 ∷ 0 ∷ 0 ∷ 0 ∷ []) ∷ holding (0 ∷ 5 ∷ 0 ∷ 0 ∷ 0 ∷ 0 ∷ []) (0 ∷ []) ∷ close ∷ [])
    (fed 4 0 [] None [] ∷ fed 4 0 [] None [] ∷ ends 1 (Malformed 1 7) ∷ refused (refusal 2) ∷ [])
    ∷ exchange (lends (1 ∷ 7 ∷ assign ++ (0 ∷ [])) ∷ lends (0 ∷ 1 ∷ 0x61 ∷ []) ∷ lends (3 ∷ 0x0a ∷ route) ∷ close ∷ [])
    (fed 9 0 [] (Some (AddressDelivered 1 7)) assign ∷ fed 3 0 [] (Some (Delivered 1)) (0x61 ∷ []) ∷ fed 12 0 [] (Some (AddressDelivered 3 10)) route ∷ closed Clean ∷ [])
    ∷ exchange short_between
    (fed 3 0 [] None [] ∷ refused (refusal 18) ∷ fed 6 0 [] (Some (AddressDelivered 2 7)) request ∷ ends 2 (Malformed 2 0) ∷ refused (refusal 2) ∷ refused (refusal 2) ∷ [])
    -- a type counts in any encoding, and only 1, 2 and 3; a value that is cut is not malformed
    ∷ exchange (lends (0x40 ∷ 3 ∷ 0 ∷ []) ∷ lends (4 ∷ 0 ∷ []) ∷ lends (1 ∷ 7 ∷ 0 ∷ 5 ∷ []) ∷ close ∷ [])
    (ends 3 (AddressDelivered 3 0) ∷ ends 2 (Skipped 4 0) ∷ fed 4 0 [] None [] ∷ closed Truncated ∷ [])
    -- 18 after 4, by the length alone, of an empty piece too
    ∷ exchange (feed [] (lent (nines 4) (nines 1023) []) ∷ feed [] (lent (nines 3) (nines 1023) []) ∷ feed [] (lent (nines 4) (nines 1024) []) ∷ [])
    (refused (refusal 18) ∷ refused (refusal 4) ∷ fed 0 0 [] None [] ∷ [])
    ∷ []

abbrev pub answers_of : Opening → List Exchange → List Pin
answers_of op [] = []
answers_of op (t ∷ ts) = answers op t.calls t.replies ∷ answers_of op ts

abbrev pub on_addresses : List Pin
on_addresses =
    -- 18 is for endpoints that opted in; others skip or pass, with the second buffer empty
    answers (endpoint 4) (feed (1 ∷ 1 ∷ 0 ∷ []) (lent (nines 4) [] []) ∷ []) (ends 3 (Skipped 1 1) ∷ [])
    ∷ answers passing (feed (2 ∷ 0 ∷ 2 ∷ []) (lent (nines 4) [] (nines 11)) ∷ []) (fed 2 2 (2 ∷ 0 ∷ []) (Some (Passed 2 0)) [] ∷ [])
    ∷ answers (intermediary 4) (feed (2 ∷ 0 ∷ 2 ∷ []) (lent (nines 4) [] (nines 11)) ∷ []) (fed 2 2 (2 ∷ 0 ∷ []) (Some (Passed 2 0)) [] ∷ [])
    -- with the draft setting its type is DATAGRAM, as before
    ∷ answers (opted_in true) (lends (0x80 ∷ 0xff ∷ 0x37 ∷ 0xa5 ∷ 1 ∷ 0x7a ∷ []) ∷ []) (fed 6 0 [] (Some (Delivered 1)) (0x7a ∷ []) ∷ [])
    ∷ answers (opted_in false) (lends (0x80 ∷ 0xff ∷ 0x37 ∷ 0xa5 ∷ 1 ∷ 0x7a ∷ []) ∷ []) (ends 6 (Skipped 16725925 1) ∷ [])
    -- 1,025 bytes are skipped by an endpoint that did not opt in, and passed by an intermediary whether it did or not
    ∷ lists Endpoint 4 false false (1 ∷ 0x44 ∷ 1 ∷ nines 1025) (outcome (Skipped 1 1025 ∷ []) [] [] Clean)
    ∷ lists Intermediary 4 false false (1 ∷ 0x44 ∷ 1 ∷ nines 1025) (outcome (Passed 1 1025 ∷ []) [] (1 ∷ 0x44 ∷ 1 ∷ nines 1025) Clean)
    ∷ lists Intermediary 4 false true (1 ∷ 0x44 ∷ 1 ∷ nines 1025) (outcome (Passed 1 1025 ∷ []) [] (1 ∷ 0x44 ∷ 1 ∷ nines 1025) Clean)
    ∷ feeds (fresh (endpoint 4)) (1 ∷ 0x44 ∷ 1 ∷ nines 1025) (lent (nines 4) [] []) (fresh (endpoint 4)) (Ok (taking 1028 0 (Some (Skipped 1 1025)))) (lent (nines 4) [] [])
    ∷ feeds (fresh passing) (1 ∷ 0x44 ∷ 1 ∷ nines 1025) (lent (nines 4) [] (replicate 1036 0)) (fresh passing) (Ok (taking 1028 1028 (Some (Passed 1 1025)))) (lent (nines 4) [] ((1 ∷ 0x44 ∷ 1 ∷ nines 1025) ++ replicate 8 0))
    -- the longest value: 128 entries
    ∷ lists Endpoint 4 false true (1 ∷ 0x44 ∷ 0 ∷ many 128 []) (outcome (AddressDelivered 1 1024 ∷ []) [] [] Clean)
    ∷ feeds (fresh (opted_in false)) (1 ∷ 0x44 ∷ 0 ∷ many 128 []) (lent (nines 4) (nines 1024) []) (fresh (opted_in false)) (Ok (taking 1027 0 (Some (AddressDelivered 1 1024)))) (lent (nines 4) (many 128 []) [])
    -- all bytes of a value are stored, byte i at place i and the rest as lent, before it is judged; nothing of one that is too long
    ∷ feeds (fresh (opted_in false)) (1 ∷ 7 ∷ other_version) (lent (nines 4) (nines 1024) []) (state (opted_in false) (InType (partial 0 0)) true) (Ok (taking 9 0 (Some (Malformed 1 7)))) (lent (nines 4) (other_version ++ nines 1017) [])
    ∷ feeds (state (opted_in false) (InValue 1 7 3) false) (8 ∷ []) (lent (nines 4) (nines 1024) []) (state (opted_in false) (InValue 1 7 2) false) (Ok (taking 1 0 None)) (lent (nines 4) (9 ∷ 9 ∷ 9 ∷ 9 ∷ 8 ∷ nines 1019) [])
    ∷ feeds (fresh (opted_in false)) (1 ∷ 0x44 ∷ 1 ∷ 8 ∷ 8 ∷ []) (lent (nines 4) (nines 1024) []) (state (opted_in false) (InType (partial 0 0)) true) (Ok (taking 3 0 (Some (Malformed 1 1025)))) (lent (nines 4) (nines 1024) [])
    -- opening takes the setting for both roles, and 3 stands as before
    ∷ opens Endpoint 65535 true true (Ok (fresh (opening Endpoint 65535 true true)))
    ∷ opens Intermediary 65535 false true (Ok (fresh (opening Intermediary 65535 false true)))
    ∷ opens Endpoint 65536 false true (Err (refusal 3))
    -- an endpoint that opted in is never in an address value of more than 1,024 bytes
    ∷ makeable (state (opted_in false) (InValue 1 1025 1) false) false
    ∷ makeable (state (opted_in true) (InValue 3 1025 1) false) false
    ∷ makeable (state (opted_in false) (InValue 1 1024 1024) false) true
    ∷ makeable (state (opted_in false) (InLength 1 (partial 1 0x44)) false) true
    ∷ makeable (state (opted_in false) (InType (partial 0 0)) true) true
    ∷ makeable (state (opted_in false) (InValue 4 1025 1) false) true
    ∷ makeable (state passing (InValue 1 1025 1) false) true
    ∷ makeable (state (endpoint 4) (InValue 1 1025 1) false) true
    ∷ []

-- the finished marks then differ, so that demand 3 needs its premise on the second buffer
abbrev pub PremiseNeeded : Type 0
PremiseNeeded =
    ((run reader_call (fresh (opted_in false)) changed_between).0.finished ≡ true)
    × ((run book_call (new_book (opted_in false)) changed_between).0.mark ≡ false)
