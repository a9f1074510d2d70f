-- The value of an address capsule, put together from a row of records.
use Rattle.std.specs.Prelude.{ℕ, ◌+◌, ◌≤◌, ◌<◌, ◌≡◌, Bool, true, false, cond, refl, List, [], ◌∷◌, ◌++◌, length, leb}
use Rattle.std.proofs.lemmas.List.Edits.{sets}
use Rattle.wire.specs.Varint.{largest, encode}
use Rattle.addresses.specs.Addresses.{Entry}
use Rattle.addresses.specs.Encoding.{entry_bytes, range_bytes, value_bytes}
use Rattle.address_rows.specs.Rows.{entry_size, entry_of, range_size, range_of, all_in, entries_in, ranges_in}

-- the bytes are at `at`, and r is the place after them
pub record Put (bytes before : List ℕ) (at : ℕ) (after : List ℕ) (r : ℕ) : Type 0 where
  pub stored : after ≡ sets before at bytes
  pub next : r ≡ at + length bytes

-- records of ranges, or of addresses
unfoldable pub size_in : Bool → ℕ
size_in routes = cond routes range_size entry_size

pub entry_record : 32 ≡ size_in false
unfolding size_in
entry_record = refl

pub range_record : 34 ≡ size_in true
unfolding size_in
range_record = refl

-- a request ID as a varint; of one that no varint holds, nothing
unfoldable pub id_bytes : ℕ → List ℕ
id_bytes n = cond (leb n largest) (encode n) []

-- what is put of an entry: its bytes, if a varint holds its request ID
unfoldable pub entry_put : Entry → List ℕ
entry_put e = id_bytes e.id ++ (e.version ∷ (e.address ++ (e.prefix ∷ [])))

unfoldable pub record_bytes : Bool → List ℕ → List ℕ
record_bytes routes s = cond routes (range_bytes (range_of s)) (entry_put (entry_of s))

-- the bytes of one record after another, the first at `at`, as long as no more than 1,024 are there
unfoldable pub gather : ℕ → List (List ℕ) → List ℕ
gather at [] = []
gather at (b ∷ bs) = cond (leb at 1024) (b ++ gather (at + length b) bs) []

-- how many bytes are put, and the whole buffer afterwards
pub record Gathering : Type 0 where
  pub count : ℕ
  pub buffer : List ℕ

abbrev pub gathering : ℕ → List ℕ → Gathering
gathering n out = record { count = n; buffer = out }

-- in a buffer shorter than 1,058 bytes nothing is put
unfoldable pub put_records : Bool → List ℕ → List ℕ → Gathering
put_records routes row out =
    let bytes = gather 0 (all_in (size_in routes) (record_bytes routes) row) in
    cond (leb 1058 (length out)) (gathering (length bytes) (sets out 0 bytes)) (gathering 0 out)

-- ---- what this comes to, if the request IDs fit

unfoldable pub value_in : Bool → List ℕ → List ℕ
value_in routes row = cond routes (value_bytes range_bytes (ranges_in row)) (value_bytes entry_bytes (entries_in row))

-- r bytes of a value are put together: all of them, or more than 1,024
pub record Gathered (v before after : List ℕ) (r : ℕ) : Type 0 where
  pub whole : r ≤ 1024 → Put v before 0 after r
  pub long : 1024 < r → 1024 < length v
