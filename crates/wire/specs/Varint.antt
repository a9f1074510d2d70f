-- Variable-length integers (RFC 9000, section 16).
use Rattle.short_forms.specs.declared.Varint.{Varint}
use Rattle.short_forms.specs.Short.{varint_of}
use Rattle.std.specs.Prelude.{ℕ, ◌+◌, ◌-◌, ◌*◌, ◌/◌, ◌%◌, ◌^◌, cond, List, [], ◌∷◌, length, take, leb, Option, Some, None}
use Rattle.wire.specs.Bytes.{num, bytes_of}

unfoldable pub largest : ℕ
largest = 2 ^ 62 - 1

-- ---- reading

-- how many bytes a varint has: the first byte's top two bits are the base-2 logarithm
unfoldable pub size_of : ℕ → ℕ
size_of b = 2 ^ (b / 64)

-- the value of a varint whose k bytes are the number n: all bits but the top two
unfoldable pub value_of : ℕ → ℕ → ℕ
value_of k n = n % 2 ^ (8 * k - 2)

-- the varint at the front of a list
unfoldable pub read_varint : List ℕ → Option Varint
read_varint [] = None
read_varint (b ∷ s) =
    let k = size_of b in
    cond (leb k (length (b ∷ s))) (Some (varint_of (value_of k (num (take k (b ∷ s)))) k)) None

-- ---- writing

-- n in 2 ^ w bytes: w in the top two bits, then n
unfoldable pub encode_as : ℕ → ℕ → List ℕ
encode_as w n = bytes_of (2 ^ w) (w * 2 ^ (8 * 2 ^ w - 2) + n)

-- the base-2 logarithm of the least size: up to 63, 16,383, 2^30-1, 2^62-1
unfoldable pub least_width : ℕ → ℕ
least_width n = cond (leb n 63) 0 (cond (leb n 16383) 1 (cond (leb n 1073741823) 2 3))

unfoldable pub least_size : ℕ → ℕ
least_size n = 2 ^ least_width n

unfoldable pub encode : ℕ → List ℕ
encode n = encode_as (least_width n) n
