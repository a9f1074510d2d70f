-- What holds of writing: each claim is a type here, and is proved in proofs/ under its name in lower case with dashes.
use Rattle.short_forms.specs.Short.{varint_of}
use Rattle.std.specs.Prelude.{ℕ, ◌+◌, ◌/◌, ◌≤◌, ◌≡◌, List, length, Some, Ok}
use Rattle.std.proofs.lemmas.List.Edits.{sets}
use Rattle.refusals.specs.declared.Refusal.{Refusal}
use Rattle.refusals.specs.Numbers.{output_too_short}
use Rattle.wire.specs.declared.units.StreamId.{StreamId}
use Rattle.wire.specs.declared.units.Quarter.{Quarter}
use Rattle.wire.specs.Varint.{read_varint, encode}
use Rattle.wire.specs.Units.{quarter_of}
use Rattle.wire.specs.Claims.{Leaves}
use Rattle.wire.specs.Writing.{writing, refuses, write_at}
use Rattle.stream_records.specs.Tables.{Table}
use Rattle.send_rights.specs.Rights.{agreed, sending_of}
use Rattle.sending.specs.Sending.{capsule_header, capsule_bytes, frame_bytes, put_capsule, put_capsule_header, write_capsule, write_frame, write_frame_header}

-- both headers are shortest: no byte list that reads as the length, or as the quarter, is shorter
abbrev pub HeadersShortest : Type 0
HeadersShortest =
    (n size : ℕ) (s payload : List ℕ)
    → read_varint s ≡ Some (varint_of n size)
    → (length payload ≡ n → length (capsule_bytes payload) ≤ 1 + (size + length payload)) × (length (frame_bytes n payload) ≤ size + length payload)

-- what each writer leaves in the output, whatever it answers
abbrev pub WritersLeave : Type 0
WritersLeave =
    (t : Table) (id : StreamId) (ours peers path n : ℕ) (payload out : List ℕ) (place : ℕ)
    → Leaves (capsule_bytes payload) out place (write_capsule t id payload out place)
    × Leaves (frame_bytes (id.0 / 4) payload) out place (write_frame t id ours peers path payload out place)
    × Leaves (encode (id.0 / 4)) out place (write_frame_header t id ours peers path n out place)
    × Leaves (capsule_bytes payload) out place (put_capsule payload out place)
    × Leaves (capsule_header n) out place (put_capsule_header n out place)

-- ---- headers alone, for hosts that send header and payload from two buffers (proofs/Headers.antt)

-- a header that was written, and the payload put right after it, are what the whole writer writes
abbrev pub HeaderThenPayload : Type 0
HeaderThenPayload =
    (payload out after : List ℕ) (place k : ℕ)
    → (put_capsule payload out place ≡ writing (Ok k) after
    → let n = length (capsule_header (length payload)) in
    (put_capsule_header (length payload) out place ≡ writing (Ok n) (sets out place (capsule_header (length payload)))) × (k ≡ n + length payload)
    × (after ≡ sets (sets out place (capsule_header (length payload))) (place + n) payload))
    × ((t : Table) (id : StreamId) (ours peers path : ℕ) (q : Quarter) → quarter_of id ≡ Some q → write_frame t id ours peers path payload out place ≡ writing (Ok k) after
    → let n = length (encode q.0) in
    (write_frame_header t id ours peers path (length payload) out place ≡ writing (Ok n) (sets out place (encode q.0))) × (k ≡ n + length payload)
    × (after ≡ sets (sets out place (encode q.0)) (place + n) payload))

-- a header is refused with a number other than 5 exactly if the whole writer is
abbrev pub HeaderRefused : Type 0
HeaderRefused =
    (payload out : List ℕ) (place : ℕ) (why : Refusal) → (why ≡ output_too_short → ⊥)
    → ((put_capsule_header (length payload) out place ≡ refuses why out → put_capsule payload out place ≡ refuses why out)
    × (put_capsule payload out place ≡ refuses why out → put_capsule_header (length payload) out place ≡ refuses why out))
    × ((t : Table) (id : StreamId) (ours peers path : ℕ)
    → (write_frame_header t id ours peers path (length payload) out place ≡ refuses why out → write_frame t id ours peers path payload out place ≡ refuses why out)
    × (write_frame t id ours peers path payload out place ≡ refuses why out → write_frame_header t id ours peers path (length payload) out place ≡ refuses why out))

-- of a header that is not refused otherwise only its own bytes need room: the payload's do not
abbrev pub HeaderAlone : Type 0
HeaderAlone =
    (n : ℕ) (out : List ℕ) (place : ℕ) → n ≤ 65535
    → (put_capsule_header n out place ≡ write_at (capsule_header n) out place)
    × ((t : Table) (id : StreamId) (ours peers path : ℕ) (q : Quarter) → sending_of t id (agreed ours peers) ≡ Ok q → length (encode q.0) + n ≤ path
    → write_frame_header t id ours peers path n out place ≡ write_at (encode q.0) out place)
