-- What is written is read back. Assumes nothing.
use Rattle.std.specs.Prelude.{Some, Ok}
use Rattle.short_forms.specs.Short.{varint_of}
use Rattle.walks.proofs.Words.{◌≡◌, ℕ, ◌-◌, ◌^◌, ◌≤◌, arith, List, length, drop, length-append, drop_at, le-leb, lt-ltb}
use Rattle.datagram.proofs.Terms.{largest, read_varint, least_size, encode, largest_quarter, read_back, length-encode, one_written, Delivered, Table, entry_at, quarter, judged_record, judged_entry, judged_read, judged_of, after_quarter, is_delivered, if_delivered, payload_of, capsule_header, capsule_bytes, frame_bytes, CapsuleReadBack, Receives, FrameReadBack}

-- ---- capsules

pub capsule-read-back : CapsuleReadBack
unfolding capsule_bytes capsule_header
capsule-read-back payload h = one_written 0 payload (omega arith) (unfold largest in omega arith)

-- ---- frames

module _ (t : Table) (streams limit q place : ℕ) (payload : List ℕ) (r : Receives t streams limit q place) (h : length payload ≤ limit) where
  abbrev frame : List ℕ
  frame = frame_bytes q payload

  abbrev size : ℕ
  size = least_size q

  quarter-read : read_varint frame ≡ Some (varint_of q size)
  unfolding frame_bytes
  quarter-read = (read_back q (unfold largest in omega (arith, r.below, r.stated)) payload).0

  rest-length : length frame - size ≡ length payload
  unfolding frame_bytes
  rest-length = omega (arith, length-append (encode q) payload, length-encode q)

  rest-is : drop size frame ≡ payload
  unfolding frame_bytes
  rest-is = drop_at (encode q) payload size (length-encode q)

  delivered : judged_of t streams limit frame ≡ Ok (Delivered (quarter q) place)
  unfolding judged_of judged_read judged_entry judged_record entry_at
  delivered =
      let a : q ≤ largest_quarter = unfold largest_quarter in omega (arith, r.below, r.stated) in
      rw (r.good, le-leb limit 65535 r.limited, le-leb streams (2 ^ 60) r.stated, quarter-read, rest-length, le-leb q largest_quarter a, lt-ltb q streams r.below, r.found, r.opened, r.knows, le-leb (length payload) limit h)

  same_payload : payload_of t streams limit frame ≡ payload
  unfolding payload_of if_delivered is_delivered after_quarter
  same_payload = rw (delivered, quarter-read) rest-is

pub frame-read-back : FrameReadBack
frame-read-back t streams limit q place payload r h = (delivered t streams limit q place payload r h, same_payload t streams limit q place payload r h)
