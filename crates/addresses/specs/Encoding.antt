-- Entries as the bytes of a value (RFC 9484, section 4.7), request IDs in their shortest form.
use Rattle.std.specs.Prelude.{ℕ, List, [], ◌∷◌, ◌++◌}
use Rattle.wire.specs.Bytes.{bytes_of}
use Rattle.wire.specs.Varint.{encode}
use Rattle.addresses.specs.Addresses.{width_of, Entry, Range}

-- request ID, IP version, address, prefix length
unfoldable pub entry_bytes : Entry → List ℕ
entry_bytes e = encode e.id ++ (e.version ∷ (e.address ++ (e.prefix ∷ [])))

-- IP version, start address, end address, IP protocol
unfoldable pub range_bytes : Range → List ℕ
range_bytes r =
    let w = width_of r.version in
    r.version ∷ (bytes_of w r.start ++ (bytes_of w r.end ++ (r.protocol ∷ [])))

unfoldable pub value_bytes : {A : Type 0} → (A → List ℕ) → List A → List ℕ
value_bytes bytes [] = []
value_bytes bytes (e ∷ es) = bytes e ++ value_bytes bytes es
