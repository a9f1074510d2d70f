-- Only for the proofs of the code: sending by what was looked up. `Sending` says what it writes.
use Rattle.refusals.specs.declared.Refusal.{Refusal}
use Rattle.stream_records.specs.declared.answers.Entry.{Entry}
use Rattle.std.specs.Prelude.{ℕ, ◌+◌, ◌≡◌, true, cond, List, ◌++◌, length, leb, Option, Result}
use Rattle.wire.specs.declared.units.StreamId.{StreamId}
use Rattle.refusals.specs.Numbers.{number_too_large, frame_too_long}
use Rattle.wire.specs.Varint.{encode}
use Rattle.wire.specs.Writing.{Writing, refuses, write_at}
use Rattle.stream_records.specs.Tables.{Table, lookup_of, sought}
use Rattle.send_rights.specs.Rights.{agreed}
use Rattle.send_rights.specs.Code.{sending_by}
use Rattle.sending.specs.Sending.{capsule_header, capsule_written, frame_written, frame_header_written, write_capsule, write_frame}

unfoldable pub capsule_by : Result (Option Entry) Refusal → StreamId → List ℕ → List ℕ → ℕ → Writing
capsule_by l id payload out place = capsule_written (sending_by l id true) payload out place

unfoldable pub frame_by : Result (Option Entry) Refusal → StreamId → ℕ → ℕ → ℕ → List ℕ → List ℕ → ℕ → Writing
frame_by l id ours peers path payload out place = frame_written (sending_by l id (agreed ours peers)) path payload out place

unfoldable pub frame_header_by : Result (Option Entry) Refusal → StreamId → ℕ → ℕ → ℕ → ℕ → List ℕ → ℕ → Writing
frame_header_by l id ours peers path n out place = frame_header_written (sending_by l id (agreed ours peers)) path n out place

-- a header of a payload of n bytes, and then that payload, or no bytes
unfoldable pub put_capsule_by : ℕ → List ℕ → List ℕ → ℕ → Writing
put_capsule_by n payload out place = cond (leb n 65535) (write_at (capsule_header n ++ payload) out place) (refuses number_too_large out)

unfoldable pub put_frame_by : ℕ → ℕ → ℕ → List ℕ → List ℕ → ℕ → Writing
put_frame_by q path n payload out place =
    cond (leb n 65535)
    (cond (leb (length (encode q) + n) path) (write_at (encode q ++ payload) out place) (refuses frame_too_long out))
    (refuses number_too_large out)

-- ---- what is decided so is what `Sending` says (proofs/Deciding.antt)

abbrev pub SentByLookup : Type 0
SentByLookup =
    (t : Table) (id : StreamId) (payload out : List ℕ) (place : ℕ)
    → let l = lookup_of (sought id) t in
    (capsule_by l id payload out place ≡ write_capsule t id payload out place)
    × ((ours peers path : ℕ) → frame_by l id ours peers path payload out place ≡ write_frame t id ours peers path payload out place)
