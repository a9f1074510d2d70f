-- What the writers leave in the output. Assumes nothing.
use Rattle.std.specs.Prelude.{Result, Ok, Err}
use Rattle.refusals.specs.declared.Refusal.{Refusal}
use Rattle.wire.specs.declared.units.Quarter.{Quarter}
use Rattle.walks.proofs.Words.{◌≡◌, refl, ℕ, ◌+◌, ◌/◌, arith, Bool, true, List, length, leb}
use Rattle.sending.proofs.Terms.{frame_too_long, number_too_large, StreamId, encode, Leaves, request_exactly, refuses_leaves, if_leaves, at_leaves, Table, capsule_header, capsule_bytes, frame_bytes, sending_of, sending_to, agreed, put_capsule, put_capsule_header, put_frame, put_frame_header, capsule_written, frame_written, frame_header_written, write_capsule, write_frame, write_frame_header, WritersLeave}

-- the bytes of a capsule or a frame, or of its header
put_leaves : (payload out : List ℕ) (place : ℕ) → Leaves (capsule_bytes payload) out place (put_capsule payload out place)
unfolding put_capsule
put_leaves payload out place = if_leaves _ out place (leb (length payload) 65535) (at_leaves (capsule_bytes payload) out place) (refuses_leaves _ out place number_too_large)

-- where a frame is sent, and its header
module _ (t : Table) (id : StreamId) (settings : Bool) (path n : ℕ) (payload out : List ℕ) (place : ℕ) where
  frame_leaves : (s : Result Quarter Refusal) → sending_of t id settings ≡ s
      → Leaves (frame_bytes (id.0 / 4) payload) out place (frame_written s path payload out place) × Leaves (encode (id.0 / 4)) out place (frame_header_written s path n out place)
  unfolding frame_written frame_header_written put_frame put_frame_header
  frame_leaves (Err r) e = (refuses_leaves _ out place r, refuses_leaves _ out place r)
  frame_leaves (Ok q) e =
      let four = (((request_exactly id).0 q.0).0 (sending_to t id settings q e)).1 in
      let same : q.0 ≡ id.0 / 4 = omega arith in (
        rw (← same) (if_leaves _ out place (leb (length payload) 65535)
            (if_leaves _ out place (leb (length (frame_bytes q.0 payload)) path) (at_leaves (frame_bytes q.0 payload) out place) (refuses_leaves _ out place frame_too_long))
            (refuses_leaves _ out place number_too_large)),
        rw (← same) (if_leaves _ out place (leb n 65535)
            (if_leaves _ out place (leb (length (encode q.0) + n) path) (at_leaves (encode q.0) out place) (refuses_leaves _ out place frame_too_long))
            (refuses_leaves _ out place number_too_large)),
      )

pub writers_leave : WritersLeave
unfolding write_capsule write_frame write_frame_header put_capsule_header
writers_leave t id ours peers path n payload out place =
    let frames = frame_leaves t id (agreed ours peers) path n payload out place (sending_of t id (agreed ours peers)) refl in (
      capsule (sending_of t id true),
      frames.0,
      frames.1,
      put_leaves payload out place,
      if_leaves _ out place (leb n 65535) (at_leaves (capsule_header n) out place) (refuses_leaves _ out place number_too_large),
    )
  where
    capsule : (s : Result Quarter Refusal) → Leaves (capsule_bytes payload) out place (capsule_written s payload out place)
    capsule (Err r) = unfold capsule_written in refuses_leaves _ out place r
    capsule (Ok q) = unfold capsule_written in put_leaves payload out place
