-- Variable-length integers of one and two bytes (RFC 9000, section 16).
use Rattle.short_forms.specs.declared.Varint.{Varint}
use Rattle.std.specs.Prelude.{ℕ, ◌+◌, ◌*◌, ◌%◌, ◌^◌, cond, List, [], ◌∷◌, ltb, Option, Some, None}

abbrev pub varint_of : ℕ → ℕ → Varint
varint_of value size = record { value = value; size = size }

-- two bytes, big-endian: all bits but the top two
unfoldable pub read_two : ℕ → List ℕ → Option Varint
read_two b [] = None
read_two b (c ∷ s) = Some (varint_of ((b * 256 + c) % 2 ^ 14) 2)

-- the first byte's top two bits are 00 for one byte and 01 for two
unfoldable pub read_short : List ℕ → Option Varint
read_short [] = None
read_short (b ∷ s) = cond (ltb b 64) (Some (varint_of b 1)) (cond (ltb b 128) (read_two b s) None)
