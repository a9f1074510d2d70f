-- Entries with the sizes of their request IDs: an ID may stand in more bytes than it needs (RFC 9000, section 16).
use Rattle.std.specs.Prelude.{ℕ, ◌/◌, List, [], ◌∷◌, ◌++◌}
use Rattle.wire.specs.Varint.{encode_as}
use Rattle.addresses.specs.Addresses.{Step, done, malformed, next, Entry, entry_at}

-- the ID stands in 2 ^ width bytes
pub record SizedEntry : Type 0 where
  pub width : ℕ
  pub entry : Entry

unfoldable pub sized_for : ℕ → Step Entry → Step SizedEntry
sized_for w done = done
sized_for w malformed = malformed
sized_for w (next e rest) = next (record { width = w; entry = e }) rest

-- the width is the top two bits of the first byte
unfoldable pub sized_at : List ℕ → Step SizedEntry
sized_at [] = done
sized_at (b ∷ v) = sized_for (b / 64) (entry_at (b ∷ v))

unfoldable pub sized_bytes : SizedEntry → List ℕ
sized_bytes s = let e = s.entry in encode_as s.width e.id ++ (e.version ∷ (e.address ++ (e.prefix ∷ [])))
