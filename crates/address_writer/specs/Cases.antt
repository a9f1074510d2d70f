-- Calls of the writers, with what they come to.
use Rattle.refusals.specs.declared.Refusal.{Refusal}
use Rattle.std.specs.Prelude.{ℕ, zero, suc, ◌≡◌, List, [], ◌∷◌, ◌++◌, map, take, replicate, Result, Ok, Err}
use Rattle.refusals.specs.Numbers.{refusal}
use Rattle.wire.specs.Writing.{writing}
use Rattle.address_writer.specs.Claims.{AddressCapsule, address_assign, address_request, route_advertisement, write_of}

-- 16 bytes for an address of IP version 4; the last 12 are not looked at
abbrev four : ℕ → ℕ → ℕ → ℕ → List ℕ
four a b c d = a ∷ b ∷ c ∷ d ∷ replicate 12 0xff

-- IP version 6: 2001:db8::n
abbrev six : ℕ → List ℕ
six n = 0x20 ∷ 0x01 ∷ 0x0d ∷ 0xb8 ∷ (replicate 11 0 ++ (n ∷ []))

-- a request ID of one byte, of 0x0102, 2^62-1 and 2^62
abbrev small : ℕ → List ℕ
small n = n ∷ replicate 7 0

abbrev id258 : List ℕ
id258 = 0x02 ∷ 0x01 ∷ replicate 6 0

abbrev id_largest : List ℕ
id_largest = replicate 7 0xff ++ (0x3f ∷ [])

abbrev id_too_large : List ℕ
id_too_large = replicate 7 0 ++ (0x40 ∷ [])

-- request ID, IP version, prefix length, address, and 6 bytes that are not looked at
abbrev entry : List ℕ → ℕ → ℕ → List ℕ → List ℕ
entry id version prefix address = id ++ (version ∷ prefix ∷ (address ++ replicate 6 0xee))

-- IP version, IP protocol, start, end
abbrev range : ℕ → ℕ → List ℕ → List ℕ → List ℕ
range version protocol start end = version ∷ protocol ∷ (start ++ end)

-- an output of n bytes
abbrev room : ℕ → List ℕ
room n = replicate n 0xbb

pub record Case : Type 0 where
  pub capsule : AddressCapsule
  pub row : List ℕ
  pub out : List ℕ
  pub place : ℕ
  pub answer : Result ℕ Refusal
  pub after : List ℕ

abbrev wrote : AddressCapsule → List ℕ → List ℕ → ℕ → ℕ → List ℕ → Case
wrote k row out place n after = record { capsule = k; row = row; out = out; place = place; answer = Ok n; after = after }

abbrev refused : AddressCapsule → List ℕ → List ℕ → ℕ → ℕ → Case
refused k row out place n = record { capsule = k; row = row; out = out; place = place; answer = Err (refusal n); after = out }

abbrev cases : List Case
cases =
    -- one entry; in a longer output; with exactly its room, and one byte less
    wrote address_assign (entry (small 1) 4 32 (four 10 0 0 1)) (room 9) 0 9 (0x01 ∷ 0x07 ∷ 0x01 ∷ 0x04 ∷ 0x0a ∷ 0x00 ∷ 0x00 ∷ 0x01 ∷ 0x20 ∷ []) ∷
    wrote address_assign (entry (small 1) 4 32 (four 10 0 0 1)) (room 12) 2 9 (0xbb ∷ 0xbb ∷ 0x01 ∷ 0x07 ∷ 0x01 ∷ 0x04 ∷ 0x0a ∷ 0x00 ∷ 0x00 ∷ 0x01 ∷ 0x20 ∷ 0xbb ∷ []) ∷
    refused address_assign (entry (small 1) 4 32 (four 10 0 0 1)) (room 8) 0 5 ∷
    refused address_assign (entry (small 1) 4 32 (four 10 0 0 1)) (room 10) 2 5 ∷
    -- a place behind the output, and at its end
    refused address_assign (entry (small 1) 4 32 (four 10 0 0 1)) (room 9) 18446744073709551615 5 ∷
    refused address_assign [] (room 9) 9 5 ∷
    -- no entry
    wrote address_assign [] (room 3) 1 2 (0xbb ∷ 0x01 ∷ 0x00 ∷ []) ∷
    wrote route_advertisement [] (room 3) 0 2 (0x03 ∷ 0x00 ∷ 0xbb ∷ []) ∷
    refused address_request [] [] 9 26 ∷
    -- the ID that is not 0 is a request's alone; the least significant byte comes first
    wrote address_assign (entry (small 0) 4 0 (four 0 0 0 0)) (room 9) 0 9 (0x01 ∷ 0x07 ∷ 0x00 ∷ 0x04 ∷ 0x00 ∷ 0x00 ∷ 0x00 ∷ 0x00 ∷ 0x00 ∷ []) ∷
    refused address_request (entry (small 0) 4 0 (four 0 0 0 0)) (room 9) 0 26 ∷
    wrote address_request (entry (small 63) 4 0 (four 0 0 0 0)) (room 9) 0 9 (0x02 ∷ 0x07 ∷ 0x3f ∷ 0x04 ∷ 0x00 ∷ 0x00 ∷ 0x00 ∷ 0x00 ∷ 0x00 ∷ []) ∷
    wrote address_request (entry id258 4 0 (four 0 0 0 0)) (room 10) 0 10 (0x02 ∷ 0x08 ∷ 0x41 ∷ 0x02 ∷ 0x04 ∷ 0x00 ∷ 0x00 ∷ 0x00 ∷ 0x00 ∷ 0x00 ∷ []) ∷
    wrote address_request (entry id_largest 4 0 (four 0 0 0 0)) (room 16) 0 16 (0x02 ∷ 0x0e ∷ 0xff ∷ 0xff ∷ 0xff ∷ 0xff ∷ 0xff ∷ 0xff ∷ 0xff ∷ 0xff ∷ 0x04 ∷ 0x00 ∷ 0x00 ∷ 0x00 ∷ 0x00 ∷ 0x00 ∷ []) ∷
    refused address_request (entry id_too_large 4 0 (four 0 0 0 0)) (room 16) 0 6 ∷
    -- 6 anywhere comes before 26 anywhere, and before 5; an ID that is no whole entry's does not count
    refused address_request (entry (small 1) 5 0 (four 0 0 0 0) ++ entry id_too_large 4 0 (four 0 0 0 0)) (room 40) 0 6 ∷
    refused address_assign (entry id_too_large 4 0 (four 0 0 0 0) ++ (0 ∷ [])) [] 1 6 ∷
    refused address_assign (entry (small 1) 4 0 (four 0 0 0 0) ++ take 31 (entry id_too_large 4 0 (four 0 0 0 0))) (room 40) 0 26 ∷
    -- 26 comes before 5
    refused address_assign (entry (small 1) 5 0 (four 0 0 0 0)) [] 1 26 ∷
    refused address_assign (entry (small 1) 4 33 (four 10 0 0 1)) (room 9) 0 26 ∷
    refused address_assign (entry (small 1) 4 31 (four 10 0 0 1)) (room 9) 0 26 ∷
    refused address_assign (entry (small 1) 6 129 (six 1)) (room 40) 0 26 ∷
    refused address_assign (0 ∷ []) (room 40) 0 26 ∷
    -- both IP versions
    wrote address_request (entry (small 1) 4 8 (four 10 0 0 0) ++ entry (small 2) 6 128 (six 9)) (room 28) 0 28
    (0x02 ∷ 0x1a ∷ 0x01 ∷ 0x04 ∷ 0x0a ∷ 0x00 ∷ 0x00 ∷ 0x00 ∷ 0x08 ∷ 0x02 ∷ 0x06 ∷ 0x20 ∷ 0x01 ∷ 0x0d ∷ 0xb8 ∷ 0x00 ∷ 0x00 ∷ 0x00 ∷ 0x00 ∷ 0x00 ∷ 0x00 ∷ 0x00 ∷ 0x00 ∷ 0x00 ∷ 0x00 ∷ 0x00 ∷ 0x09 ∷ 0x80 ∷ []) ∷
    -- ranges: version, start, end, protocol; in order and apart
    wrote route_advertisement (range 4 17 (four 10 0 0 0) (four 10 0 0 5)) (room 13) 0 12 (0x03 ∷ 0x0a ∷ 0x04 ∷ 0x0a ∷ 0x00 ∷ 0x00 ∷ 0x00 ∷ 0x0a ∷ 0x00 ∷ 0x00 ∷ 0x05 ∷ 0x11 ∷ 0xbb ∷ []) ∷
    wrote route_advertisement (range 4 17 (four 10 0 0 0) (four 10 0 0 5) ++ range 4 17 (four 10 0 0 6) (four 10 0 0 9)) (room 22) 0 22
    (0x03 ∷ 0x14 ∷ 0x04 ∷ 0x0a ∷ 0x00 ∷ 0x00 ∷ 0x00 ∷ 0x0a ∷ 0x00 ∷ 0x00 ∷ 0x05 ∷ 0x11 ∷ 0x04 ∷ 0x0a ∷ 0x00 ∷ 0x00 ∷ 0x06 ∷ 0x0a ∷ 0x00 ∷ 0x00 ∷ 0x09 ∷ 0x11 ∷ []) ∷
    refused route_advertisement (range 4 17 (four 10 0 0 0) (four 10 0 0 5) ++ range 4 17 (four 10 0 0 5) (four 10 0 0 9)) (room 22) 0 26 ∷
    refused route_advertisement (range 4 17 (four 10 0 0 0) (four 10 0 0 5) ++ range 4 6 (four 10 0 0 0) (four 10 0 0 5)) (room 22) 0 26 ∷
    refused route_advertisement (range 4 0 (four 10 0 0 0) (four 10 0 0 9) ++ range 4 17 (four 10 0 0 9) (four 10 0 0 10)) (room 22) 0 26 ∷
    refused route_advertisement (range 4 17 (four 10 0 0 5) (four 10 0 0 4)) (room 12) 0 26 ∷
    refused route_advertisement (range 6 0 (six 0) (six 1) ++ range 4 0 (four 10 0 0 0) (four 10 0 0 5)) (room 50) 0 26 ∷
    refused route_advertisement (range 5 17 (four 10 0 0 0) (four 10 0 0 5)) (room 12) 0 26 ∷
    refused route_advertisement (range 4 17 (four 10 0 0 0) (four 10 0 0 5) ++ (0 ∷ [])) (room 22) 0 26 ∷
    refused route_advertisement (range 4 17 (four 10 0 0 0) (four 10 0 0 5)) (room 11) 0 5 ∷
    []

-- n entries, and then others
unfoldable pub entries_of : List ℕ → ℕ → List ℕ → List ℕ
entries_of id zero rest = rest
entries_of id (suc n) rest = entry id 4 32 (four 10 0 0 1) ++ entries_of id n rest

-- n ranges of one address each, and then others
unfoldable pub ranges_of4 : ℕ → ℕ → List ℕ → List ℕ
ranges_of4 from zero rest = rest
ranges_of4 from (suc n) rest = range 4 17 (four 10 0 0 from) (four 10 0 0 from) ++ ranges_of4 (suc from) n rest

unfoldable pub ranges_of6 : ℕ → ℕ → List ℕ
ranges_of6 from zero = []
ranges_of6 from (suc n) = range 6 17 (six from) (six from) ++ ranges_of6 (suc from) n

-- an output of n bytes, and the answer alone
pub record Long : Type 0 where
  pub capsule : AddressCapsule
  pub row : List ℕ
  pub room : ℕ
  pub answer : Result ℕ Refusal

abbrev long : AddressCapsule → List ℕ → ℕ → Result ℕ Refusal → Long
long k row n a = record { capsule = k; row = row; room = n; answer = a }

abbrev long_cases : List Long
long_cases =
    -- 122 entries of 8 bytes and 7 of 7 bytes are 1,025 bytes; one of 8 bytes changed for one of 7 makes 1,024
    long address_assign (entries_of id258 122 (entries_of (small 1) 7 [])) 1100 (Err (refusal 26)) ∷
    long address_assign (entries_of id258 121 (entries_of (small 1) 8 [])) 1027 (Ok 1027) ∷
    long address_request (entries_of id258 128 []) 1026 (Err (refusal 5)) ∷
    -- an ID behind 1,024 bytes of value
    long address_request (entries_of id258 129 (entries_of id_too_large 1 [])) 1100 (Err (refusal 6)) ∷
    -- 82 ranges of IP version 4 and 6 of version 6 are 1,024 bytes
    long route_advertisement (ranges_of4 0 82 (ranges_of6 0 6)) 1027 (Ok 1027) ∷
    long route_advertisement (ranges_of4 0 83 (ranges_of6 0 6)) 1100 (Err (refusal 26)) ∷
    []

abbrev pub AllCases : Type 0
AllCases =
    (map (λ c. write_of c.capsule c.row c.out c.place) cases ≡ map (λ c. writing c.answer c.after) cases)
    × (map (λ c. (write_of c.capsule c.row (room c.room) 0).answer) long_cases ≡ map (λ c. c.answer) long_cases)
