-- Capsules and frames written (document 01, "Writers, settings, messages").
use Rattle.refusals.specs.declared.Refusal.{Refusal}
use Rattle.wire.specs.declared.units.Quarter.{Quarter}
use Rattle.std.specs.Prelude.{ℕ, ◌+◌, true, cond, List, ◌∷◌, ◌++◌, length, leb, Result, Ok, Err}
use Rattle.refusals.specs.Numbers.{number_too_large, frame_too_long}
use Rattle.wire.specs.declared.units.StreamId.{StreamId}
use Rattle.wire.specs.Varint.{encode}
use Rattle.wire.specs.Writing.{Writing, refuses, write_at}
use Rattle.stream_records.specs.Tables.{Table}
use Rattle.send_rights.specs.Rights.{agreed, sending_of}

-- type 00 and the shortest length, of n bytes (RFC 9297, section 3.5)
unfoldable pub capsule_header : ℕ → List ℕ
capsule_header n = 0 ∷ encode n

-- header, payload
unfoldable pub capsule_bytes : List ℕ → List ℕ
capsule_bytes payload = capsule_header (length payload) ++ payload

-- quarter, payload (RFC 9297, section 2.1)
unfoldable pub frame_bytes : ℕ → List ℕ → List ℕ
frame_bytes q payload = encode q ++ payload

-- 6, 5: a payload to send is at most 65,535 bytes
unfoldable pub put_capsule : List ℕ → List ℕ → ℕ → Writing
put_capsule payload out place = cond (leb (length payload) 65535) (write_at (capsule_bytes payload) out place) (refuses number_too_large out)

-- 6, 14, 5: the path size counts quarter and payload
unfoldable pub put_frame : ℕ → ℕ → List ℕ → List ℕ → ℕ → Writing
put_frame q path payload out place =
    cond (leb (length payload) 65535)
    (cond (leb (length (frame_bytes q payload)) path) (write_at (frame_bytes q payload) out place) (refuses frame_too_long out))
    (refuses number_too_large out)

-- the same by the payload's length, and the header alone
unfoldable pub put_capsule_header : ℕ → List ℕ → ℕ → Writing
put_capsule_header n out place = cond (leb n 65535) (write_at (capsule_header n) out place) (refuses number_too_large out)

unfoldable pub put_frame_header : ℕ → ℕ → ℕ → List ℕ → ℕ → Writing
put_frame_header q path n out place =
    cond (leb n 65535) (cond (leb (length (encode q) + n) path) (write_at (encode q) out place) (refuses frame_too_long out)) (refuses number_too_large out)

unfoldable pub capsule_written : Result Quarter Refusal → List ℕ → List ℕ → ℕ → Writing
capsule_written (Err r) payload out place = refuses r out
capsule_written (Ok q) payload out place = put_capsule payload out place

unfoldable pub frame_written : Result Quarter Refusal → ℕ → List ℕ → List ℕ → ℕ → Writing
frame_written (Err r) path payload out place = refuses r out
frame_written (Ok q) path payload out place = put_frame q.0 path payload out place

unfoldable pub frame_header_written : Result Quarter Refusal → ℕ → ℕ → List ℕ → ℕ → Writing
frame_header_written (Err r) path n out place = refuses r out
frame_header_written (Ok q) path n out place = put_frame_header q.0 path n out place

unfoldable pub write_capsule : Table → StreamId → List ℕ → List ℕ → ℕ → Writing
write_capsule t id payload out place = capsule_written (sending_of t id true) payload out place

unfoldable pub write_frame : Table → StreamId → ℕ → ℕ → ℕ → List ℕ → List ℕ → ℕ → Writing
write_frame t id ours peers path payload out place = frame_written (sending_of t id (agreed ours peers)) path payload out place

-- a frame's header, by the payload's length: the frame writer's order of refusals
unfoldable pub write_frame_header : Table → StreamId → ℕ → ℕ → ℕ → ℕ → List ℕ → ℕ → Writing
write_frame_header t id ours peers path n out place = frame_header_written (sending_of t id (agreed ours peers)) path n out place
