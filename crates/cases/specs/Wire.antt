-- Cases of varints, stream IDs and quarters.
use Rattle.short_forms.specs.Short.{varint_of}
use Rattle.std.specs.Prelude.{ℕ, ◌-◌, ◌^◌, List, [], ◌∷◌, replicate, Some, None, Ok, Err}
use Rattle.refusals.specs.Numbers.{refusal}
use Rattle.wire.specs.declared.partial.VarintTaken.TheVariants.{Impossible, More, Ends}
use Rattle.wire.specs.Partial.{partial}
use Rattle.cases.specs.Pin.{Pin, reads, writes, quarters, streams, takes}

-- three bytes, none of them 0
abbrev three : List ℕ
three = 7 ∷ 8 ∷ 9 ∷ []

abbrev pub on_the_wire : List Pin
on_the_wire =
    reads [] None
    ∷ reads (0x40 ∷ []) None
    ∷ reads (0xc0 ∷ 0 ∷ 0 ∷ 0 ∷ 0 ∷ 0 ∷ 0 ∷ []) None
    ∷ reads (0x40 ∷ 0x25 ∷ []) (Some (varint_of 37 2))
    ∷ reads (0x80 ∷ 0 ∷ 0 ∷ 0x25 ∷ 1 ∷ []) (Some (varint_of 37 4))
    ∷ reads (0xff ∷ 0xff ∷ 0xff ∷ 0xff ∷ 0xff ∷ 0xff ∷ 0xff ∷ 0xff ∷ []) (Some (varint_of (2 ^ 62 - 1) 8))
    -- RFC 9000, appendix A.1
    ∷ reads (0xc2 ∷ 0x19 ∷ 0x7c ∷ 0x5e ∷ 0xff ∷ 0x14 ∷ 0xe8 ∷ 0x8c ∷ []) (Some (varint_of 151288809941952652 8))
    ∷ reads (0x9d ∷ 0x7f ∷ 0x3e ∷ 0x7d ∷ []) (Some (varint_of 494878333 4))
    ∷ reads (0x7b ∷ 0xbd ∷ []) (Some (varint_of 15293 2))
    ∷ reads (0x25 ∷ []) (Some (varint_of 37 1))
    -- the borders of four bytes
    ∷ writes 16384 (replicate 5 0) 1 (Ok 4) (0 ∷ 0x80 ∷ 0 ∷ 0x40 ∷ 0 ∷ [])
    ∷ writes (2 ^ 30 - 1) (replicate 5 0) 0 (Ok 4) (0xbf ∷ 0xff ∷ 0xff ∷ 0xff ∷ 0 ∷ [])
    ∷ writes (2 ^ 30) (replicate 8 9) 0 (Ok 8) (0xc0 ∷ 0 ∷ 0 ∷ 0 ∷ 0x40 ∷ 0 ∷ 0 ∷ 0 ∷ [])
    -- the count of bytes written, not the next place
    ∷ writes 64 three 1 (Ok 2) (7 ∷ 0x40 ∷ 0x40 ∷ [])
    ∷ writes 5 three 2 (Ok 1) (7 ∷ 8 ∷ 5 ∷ [])
    -- no room: at the end, past it, and where a sum of 64 bits would wrap
    ∷ writes 5 three 3 (Err (refusal 5)) three
    ∷ writes 5 three 4 (Err (refusal 5)) three
    ∷ writes 5 three (2 ^ 64 - 1) (Err (refusal 5)) three
    ∷ writes 64 three (2 ^ 64 - 2) (Err (refusal 5)) three
    ∷ writes 64 three 2 (Err (refusal 5)) three
    ∷ writes 5 [] 0 (Err (refusal 5)) []
    -- 6 stands before 5
    ∷ writes (2 ^ 62) three (2 ^ 64 - 1) (Err (refusal 6)) three
    ∷ writes (2 ^ 62) (replicate 8 0) 0 (Err (refusal 6)) (replicate 8 0)
    ∷ writes (2 ^ 62 - 1) (replicate 8 0) 0 (Ok 8) (replicate 8 0xff)
    -- a part goes on, ends by the bytes that were missing, or cannot be one
    ∷ takes (partial 0 0) [] (More (partial 0 0))
    ∷ takes (partial 1 0x80) (0x01 ∷ 0x02 ∷ []) (More (partial 3 0x800102))
    ∷ takes (partial 1 0x40) (0x25 ∷ 7 ∷ []) (Ends 1 37)
    ∷ takes (partial 3 0x800102) (0x03 ∷ []) (Ends 1 0x010203)
    ∷ takes (partial 0 1) (1 ∷ []) Impossible
    ∷ takes (partial 1 0x3f) (1 ∷ []) Impossible
    ∷ takes (partial 2 0x4040) (1 ∷ []) Impossible
    ∷ takes (partial 2 0x10000) (1 ∷ []) Impossible
    ∷ quarters 1 None
    ∷ quarters 2 None
    ∷ quarters 3 None
    ∷ quarters 5 None
    ∷ quarters (2 ^ 62) None
    ∷ quarters (2 ^ 64 - 4) None
    ∷ quarters (2 ^ 62 - 4) (Some (record { 0 = 2 ^ 60 - 1 }))
    ∷ quarters 0 (Some (record { 0 = 0 }))
    ∷ quarters 256 (Some (record { 0 = 64 }))
    ∷ streams (2 ^ 60 - 1) (Some (record { 0 = 2 ^ 62 - 4 }))
    ∷ streams (2 ^ 60) None
    ∷ streams 1 (Some (record { 0 = 4 }))
    ∷ []
