-- Address capsules written at a place of an output (document 02, request 4).
use Rattle.std.specs.Prelude.{ℕ, Bool, cond, ◌&&◌, List, ◌∷◌, ◌++◌, length}
use Rattle.refusals.specs.Numbers.{number_too_large, malformed_to_write}
use Rattle.wire.specs.Varint.{encode}
use Rattle.wire.specs.Writing.{Writing, refuses, write_at}
use Rattle.addresses.specs.Addresses.{route, all_of, well_formed}
use Rattle.addresses.specs.Encoding.{entry_bytes, range_bytes, value_bytes}
use Rattle.address_rows.specs.Rows.{entry_size, range_size, is_whole, entries_in, ranges_in, id_fits}

-- type, shortest length, value (RFC 9297, section 3.2)
unfoldable pub capsule_of : ℕ → List ℕ → List ℕ
capsule_of t v = t ∷ (encode (length v) ++ v)

-- 26, 5: a row with surplus bytes is malformed, and so is a value that reading would call so
unfoldable pub write_value : Bool → ℕ → List ℕ → List ℕ → ℕ → Writing
write_value whole t v out place = cond (whole && well_formed t v) (write_at (capsule_of t v) out place) (refuses malformed_to_write out)

-- 6, 26, 5: an ADDRESS_ASSIGN or ADDRESS_REQUEST
unfoldable pub write_addresses : ℕ → List ℕ → List ℕ → ℕ → Writing
write_addresses t row out place =
    let es = entries_in row in
    cond (all_of id_fits es) (write_value (is_whole entry_size row) t (value_bytes entry_bytes es) out place) (refuses number_too_large out)

-- 26, 5: a ROUTE_ADVERTISEMENT
unfoldable pub write_routes : List ℕ → List ℕ → ℕ → Writing
write_routes row out place = write_value (is_whole range_size row) route (value_bytes range_bytes (ranges_in row)) out place
