-- Entries to write, lent as a row of records of fixed size. What is reserved or spare is not looked at.
use Rattle.std.specs.Prelude.{ℕ, zero, suc, ◌+◌, ◌*◌, ◌/◌, ◌%◌, Bool, List, [], ◌∷◌, length, take, drop, get_or, leb, eqb}
use Rattle.wire.specs.Bytes.{num}
use Rattle.wire.specs.Varint.{largest}
use Rattle.addresses.specs.Addresses.{width_of, Entry, Range}

-- the number whose least significant byte comes first
unfoldable pub little_endian : List ℕ → ℕ
little_endian [] = 0
little_endian (b ∷ s) = b + 256 * little_endian s

-- 32 bytes: request ID (8 bytes, least significant first), IP version, prefix length, address (16 bytes, of IP version 4 the first four), 6 reserved
abbrev pub entry_size : ℕ
entry_size = 32

unfoldable pub entry_of : List ℕ → Entry
entry_of s =
    let version = get_or s 8 0 in
    record { id = little_endian (take 8 s); version = version; address = take (width_of version) (drop 10 s); prefix = get_or s 9 0 }

-- 34 bytes: IP version, IP protocol, start address and end address (16 bytes each, of IP version 4 the first four)
abbrev pub range_size : ℕ
range_size = 34

unfoldable pub range_of : List ℕ → Range
range_of s =
    let version = get_or s 0 0 in
    let w = width_of version in
    record { version = version; start = num (take w (drop 2 s)); end = num (take w (drop 18 s)); protocol = get_or s 1 0 }

-- the first k records of a row
unfoldable pub first_of : {A : Type 0} → ℕ → (List ℕ → A) → ℕ → List ℕ → List A
first_of size entry zero row = []
first_of size entry (suc k) row = entry row ∷ first_of size entry k (drop size row)

-- all whole records of a row
unfoldable pub all_in : {A : Type 0} → ℕ → (List ℕ → A) → List ℕ → List A
all_in size entry row = first_of size entry (length row / size) row

-- nothing is left over
unfoldable pub is_whole : ℕ → List ℕ → Bool
is_whole size row = eqb (length row % size) 0

unfoldable pub entries_in : List ℕ → List Entry
entries_in row = all_in entry_size entry_of row

unfoldable pub ranges_in : List ℕ → List Range
ranges_in row = all_in range_size range_of row

-- a varint holds the request ID
unfoldable pub id_fits : Entry → Bool
id_fits e = leb e.id largest
