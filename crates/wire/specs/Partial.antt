-- A varint of which a part has come.
use Rattle.short_forms.specs.declared.Varint.{Varint}
use Rattle.std.specs.Prelude.{ℕ, zero, suc, ◌-◌, ◌/◌, ◌^◌, Bool, cond, ◌&&◌, List, ◌++◌, length, ltb, eqb, Option, Some, None}
use Rattle.wire.specs.declared.partial.Partial.{Partial}
use Rattle.wire.specs.declared.partial.VarintTaken.{VarintTaken}
use Rattle.wire.specs.declared.partial.VarintTaken.TheVariants.{Impossible, More, Ends}
use Rattle.wire.specs.Bytes.{num, bytes_of}
use Rattle.wire.specs.Varint.{size_of, read_varint}

abbrev pub partial : ℕ → ℕ → Partial
partial have raw = record { have = have; raw = raw }

-- the part that some bytes are
unfoldable pub partial_of : List ℕ → Partial
partial_of s = partial (length s) (num s)

-- the bytes of a part
unfoldable pub held_bytes : Partial → List ℕ
held_bytes p = bytes_of p.have p.raw

-- `have` bytes that are the number `raw` start a varint and are fewer than it has
unfoldable pub starts : ℕ → ℕ → Bool
starts zero raw = eqb raw 0
starts (suc k) raw = ltb raw (256 ^ suc k) && ltb (suc k) (size_of (raw / 256 ^ k))

unfoldable pub is_partial : Partial → Bool
is_partial p = starts p.have p.raw

-- what reading at the part's bytes and those after them says of the bytes after them
unfoldable pub taken_of : ℕ → List ℕ → Option Varint → VarintTaken
taken_of have joined None = More (partial_of joined)
taken_of have joined (Some read) = Ends (read.size - have) read.value

-- a part that goes on by s
unfoldable pub take_varint : Partial → List ℕ → VarintTaken
take_varint p s =
    let joined = held_bytes p ++ s in
    cond (is_partial p) (taken_of p.have joined (read_varint joined)) Impossible
