-- Each call is refused by its list of specs/Orders.antt, at every input. Each claim is proved in the file given, under its name in lower case with dashes.
use Rattle.std.specs.Prelude.{ℕ, suc, ◌+◌, ◌/◌, ◌≡◌, Bool, List, length, Err}
use Rattle.refusals.specs.Numbers.{refusal}
use Rattle.refusals.specs.First.{Order, Refuses}
use Rattle.wire.specs.declared.units.StreamId.{StreamId}
use Rattle.wire.specs.Varint.{encode}
use Rattle.wire.specs.Writing.{Writing, write_varint}
use Rattle.opening.specs.declared.Role.{Role}
use Rattle.capsule.specs.declared.reader.Reader.{Reader}
use Rattle.capsule.specs.Calls.{Lent}
use Rattle.capsule.specs.Reader.{open_of, feed_of, close_of}
use Rattle.look.specs.Looking.{look_of}
use Rattle.one_shot_listing.specs.Listing.{listing_of}
use Rattle.http_errors.specs.Translation.{translated}
use Rattle.capsule_protocol.specs.Field.{field_of}
use Rattle.stream_records.specs.declared.record.Side.{Side}
use Rattle.stream_records.specs.Tables.{Table, opening_of, closing_of, standing_of}
use Rattle.judging.specs.Judging.{judged_of}
use Rattle.sending.specs.Sending.{write_capsule, write_frame, write_frame_header, put_capsule, put_capsule_header}
use Rattle.address_writer.specs.Claims.{AddressCapsule, write_of}
use Rattle.refusal_orders.specs.Orders as order

-- of anything that is written at a place
abbrev pub WritingRefuses : Writing → Order → Type 0
WritingRefuses w o = Refuses (λ n. w.answer ≡ Err (refusal n)) o

-- ---- numbers on the wire, readers, listing, translation, the field's value (proofs/Reading.antt)

abbrev pub VarintWriting : Type 0
VarintWriting = (n : ℕ) (out : List ℕ) (place : ℕ) → WritingRefuses (write_varint n out place) (order.varint_writing n out place)

abbrev pub ReaderOpening : Type 0
ReaderOpening =
    (role : Role) (limit : ℕ) (draft addresses : Bool)
    → Refuses (λ n. open_of role limit draft addresses ≡ Err (refusal n)) (order.reader_opening limit)

abbrev pub Feeding : Type 0
Feeding = (r : Reader) (piece : List ℕ) (b : Lent) → Refuses (λ n. (feed_of r piece b).answer ≡ Err (refusal n)) (order.feeding r piece b)

abbrev pub Closing : Type 0
Closing = (r : Reader) → Refuses (λ n. (close_of r).answer ≡ Err (refusal n)) (order.closing r)

abbrev pub Looking : Type 0
Looking = (r : Reader) → Refuses (λ n. look_of r ≡ Err (refusal n)) (order.looking r)

abbrev pub Listing : Type 0
Listing = (s : List ℕ) → Refuses (λ n. listing_of s ≡ Err (refusal n)) (order.listing s)

abbrev pub Translating : Type 0
Translating = (error version : ℕ) → Refuses (λ n. translated error version ≡ Err (refusal n)) (order.translation error version)

abbrev pub FieldReading : Type 0
FieldReading = (value : List ℕ) → Refuses (λ n. field_of value ≡ Err (refusal n)) (order.field_value value)

-- ---- the stream table (proofs/Tables.antt)

abbrev pub StreamOpening : Type 0
StreamOpening = (t : Table) (id : StreamId) → Refuses (λ n. opening_of t id ≡ Err (refusal n)) (order.stream_opening t id)

abbrev pub SideClosing : Type 0
SideClosing = (t : Table) (id : StreamId) (side : Side) → Refuses (λ n. closing_of t id side ≡ Err (refusal n)) (order.stream_named t id)

abbrev pub StreamFinding : Type 0
StreamFinding = (t : Table) (id : StreamId) → Refuses (λ n. standing_of t id ≡ Err (refusal n)) (order.stream_named t id)

abbrev pub Judging : Type 0
Judging =
    (t : Table) (streams limit : ℕ) (frame : List ℕ)
    → Refuses (λ n. judged_of t streams limit frame ≡ Err (refusal n)) (order.judging t streams limit)

-- ---- writers (proofs/Writers.antt)

abbrev pub CapsuleWriting : Type 0
CapsuleWriting =
    (t : Table) (id : StreamId) (payload out : List ℕ) (place : ℕ)
    → WritingRefuses (write_capsule t id payload out place) (order.capsule_writing t id (length payload) out place)

abbrev pub FrameWriting : Type 0
FrameWriting =
    (t : Table) (id : StreamId) (ours peers path : ℕ) (payload out : List ℕ) (place : ℕ)
    → WritingRefuses (write_frame t id ours peers path payload out place) (order.frame_writing t id ours peers path (length payload) (length (encode (id.0 / 4)) + length payload) out place)

abbrev pub FrameHeaderWriting : Type 0
FrameHeaderWriting =
    (t : Table) (id : StreamId) (ours peers path n : ℕ) (out : List ℕ) (place : ℕ)
    → WritingRefuses (write_frame_header t id ours peers path n out place) (order.frame_writing t id ours peers path n (length (encode (id.0 / 4))) out place)

abbrev pub DatagramWriting : Type 0
DatagramWriting =
    (payload out : List ℕ) (place : ℕ)
    → WritingRefuses (put_capsule payload out place) (order.datagram_writing (length payload) (suc (length (encode (length payload))) + length payload) out place)

abbrev pub DatagramHeaderWriting : Type 0
DatagramHeaderWriting =
    (n : ℕ) (out : List ℕ) (place : ℕ) → WritingRefuses (put_capsule_header n out place) (order.datagram_writing n (suc (length (encode n))) out place)

abbrev pub AddressWriting : Type 0
AddressWriting = (k : AddressCapsule) (row out : List ℕ) (place : ℕ) → WritingRefuses (write_of k row out place) (order.address_writing k row out place)
