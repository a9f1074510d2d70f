-- Document 01's paragraph "Order", call by call: each number and its condition, over the call's arguments. 18 and 26 are document 02's (request 4), 19 too (request 5).
use Rattle.std.specs.Prelude.{ℕ, suc, ◌+◌, ◌-◌, ◌/◌, ◌%◌, ◌^◌, ◌≤◌, ◌<◌, ◌≡◌, true, false, List, [], ◌∷◌, length}
use Rattle.refusals.specs.First.{Order}
use Rattle.wire.specs.declared.units.StreamId.{StreamId}
use Rattle.wire.specs.Units.{IsRequestStream}
use Rattle.wire.specs.Varint.{encode}
use Rattle.opening.specs.declared.Role.TheVariants.{Endpoint, Intermediary}
use Rattle.capsule.specs.declared.reader.Reader.{Reader}
use Rattle.capsule.specs.Calls.{Lent}
use Rattle.capsule_laws.specs.Claims.{Makes}
use Rattle.stream_records.specs.Records.{send_open, has_semantics}
use Rattle.stream_records.specs.Tables.{Table}
use Rattle.stream_records.specs.Words.{UsedBelow, GoodTable, InTable, Any}
use Rattle.addresses.specs.Addresses.{well_formed}
use Rattle.address_writer.specs.Claims.{AddressCapsule, record_size, LargeId, type_of, value_of}
use Rattle.address_writer.specs.Writer.{capsule_of}

-- "below the encoding from the named place on, a place past the end included": an encoding of n bytes
abbrev pub TooShort : List ℕ → ℕ → ℕ → Type 0
TooShort out place n = length out < place + n

-- ---- numbers on the wire

-- varint writing: 6, 5
abbrev pub varint_writing : ℕ → List ℕ → ℕ → Order
varint_writing n out place =
    (6, 2 ^ 62 - 1 < n)
    ∷ (5, TooShort out place (length (encode n)))
    ∷ []

-- ---- readers

-- opening a reader: 3
abbrev pub reader_opening : ℕ → Order
reader_opening limit = (3, 65535 < limit) ∷ []

-- feeding: 1, 2, 4, 18, 5
abbrev pub feeding : Reader → List ℕ → Lent → Order
feeding r piece b =
    (1, Makes r → ⊥)
    ∷ (2, r.finished ≡ true)
    ∷ (4, length b.gathering < r.opening.limit)
    ∷ (18, (r.opening.role ≡ Endpoint) × (r.opening.addresses ≡ true) × (length b.addresses < 1024))
    ∷ (5, (r.opening.role ≡ Intermediary) × (length b.output < length piece + 8))
    ∷ []

-- close: 1, 2
abbrev pub closing : Reader → Order
closing r =
    (1, Makes r → ⊥)
    ∷ (2, r.finished ≡ true)
    ∷ []

-- a look at a reader (added): 1
abbrev pub looking : Reader → Order
looking r = (1, Makes r → ⊥) ∷ []

-- ---- one-shot listing: 16; translation: 17

abbrev pub listing : List ℕ → Order
listing s = (16, 4096 < length s) ∷ []

abbrev pub translation : ℕ → ℕ → Order
translation error version =
    (17, (1 ≤ error) × (error ≤ 7) × (1 ≤ version) × (version ≤ 3) → ⊥)
    ∷ []

-- ---- the Capsule-Protocol field's value: 19

abbrev pub field_value : List ℕ → Order
field_value value = (19, 1024 < length value) ∷ []

-- ---- the stream table

-- table opening: 15, 7, 9, 8
abbrev pub stream_opening : Table → StreamId → Order
stream_opening t id =
    (15, GoodTable t → ⊥)
    ∷ (7, IsRequestStream id.0 → ⊥)
    ∷ (9, InTable t (id.0 / 4) Any)
    ∷ (8, UsedBelow t (length t))
    ∷ []

-- closing a side: 15, 7, 10. Where a stream stands (added) is refused likewise
abbrev pub stream_named : Table → StreamId → Order
stream_named t id =
    (15, GoodTable t → ⊥)
    ∷ (7, IsRequestStream id.0 → ⊥)
    ∷ (10, InTable t (id.0 / 4) Any → ⊥)
    ∷ []

-- judging: 15, 3, 6 (and then the first of eight rules: `rules` of judging/specs/Judging.antt)
abbrev pub judging : Table → ℕ → ℕ → Order
judging t streams limit =
    (15, GoodTable t → ⊥)
    ∷ (3, 65535 < limit)
    ∷ (6, 2 ^ 60 < streams)
    ∷ []

-- ---- writers, of a payload of n bytes

-- the capsule writer: 15, 7, 10, 12, 13, 6, 5
abbrev pub capsule_writing : Table → StreamId → ℕ → List ℕ → ℕ → Order
capsule_writing t id n out place =
    (15, GoodTable t → ⊥)
    ∷ (7, IsRequestStream id.0 → ⊥)
    ∷ (10, InTable t (id.0 / 4) Any → ⊥)
    ∷ (12, InTable t (id.0 / 4) (λ r. send_open r ≡ false))
    ∷ (13, InTable t (id.0 / 4) (λ r. has_semantics r ≡ false))
    ∷ (6, 65535 < n)
    ∷ (5, TooShort out place (suc (length (encode n)) + n))
    ∷ []

-- the frame writer: 15, 7, 10, 11, 12, 13, 6, 14, 5. Of the frame's bytes `written` are to be written: all of them, or (added) its header alone
abbrev pub frame_writing : Table → StreamId → ℕ → ℕ → ℕ → ℕ → ℕ → List ℕ → ℕ → Order
frame_writing t id ours peers path n written out place =
    (15, GoodTable t → ⊥)
    ∷ (7, IsRequestStream id.0 → ⊥)
    ∷ (10, InTable t (id.0 / 4) Any → ⊥)
    ∷ (11, (ours ≡ 1) × (peers ≡ 1) → ⊥)
    ∷ (12, InTable t (id.0 / 4) (λ r. send_open r ≡ false))
    ∷ (13, InTable t (id.0 / 4) (λ r. has_semantics r ≡ false))
    ∷ (6, 65535 < n)
    ∷ (14, path < length (encode (id.0 / 4)) + n)
    ∷ (5, TooShort out place written)
    ∷ []

-- a DATAGRAM capsule without a table, or its header alone (added): 6, 5
abbrev pub datagram_writing : ℕ → ℕ → List ℕ → ℕ → Order
datagram_writing n written out place =
    (6, 65535 < n)
    ∷ (5, TooShort out place written)
    ∷ []

-- address capsules: 6, 26, 5. A row of records is lent; 26 if bytes are left over, or if reading would call the value malformed
abbrev pub address_writing : AddressCapsule → List ℕ → List ℕ → ℕ → Order
address_writing k row out place =
    (6, LargeId k row)
    ∷ (26, (length row % record_size k ≡ 0) × (well_formed (type_of k) (value_of k row) ≡ true) → ⊥)
    ∷ (5, TooShort out place (length (capsule_of (type_of k) (value_of k row))))
    ∷ []
