-- Payloads and writers (specs/Claims.antt). Assumes nothing.
use Rattle.std.specs.Prelude.{Option, Some, None, Result, Ok, Err}
use Rattle.refusals.specs.declared.Refusal.{Refusal}
use Rattle.walks.proofs.Words.{ℕ, ◌+◌, ◌-◌, ◌≤◌, ◌≡◌, refl, Bool, ◌&&◌, List, [], arith, length, take, drop, length-drop, take_all}
use Rattle.capi.proofs.Terms.{number_too_large, malformed_to_write, StreamId, Quarter, Varint, read_varint, Writing, Leaves, reads, refuses_leaves, if_leaves, at_leaves, varint_leaves, Judged, is_delivered, if_delivered, after_quarter, judged_of, payload_of, writers_leave, route, all_of, well_formed, entry_bytes, range_bytes, value_bytes, entry_size, range_size, is_whole, entries_in, ranges_in, id_fits, capsule_of, write_value, write_addresses, write_routes, written_answer, wrote_by, delivered_answer, judged_answer, PayloadPart, RefusalLeaves, RefusedWriteLeaves}
use Rattle.judging.specs.declared.judge.Judged.TheVariants as judged

-- ---- the payload's part of the frame

module _ (frame : List ℕ) where
  abbrev Part : ℕ → ℕ → List ℕ → Type 0
  Part start n payload = (start + n ≤ length frame) × (take n (drop start frame) ≡ payload)

  part_read : (q : Quarter) (place : ℕ) (v : Option Varint) → read_varint frame ≡ v → let a = delivered_answer q place frame v in Part a.start a.length (after_quarter v frame)
  unfolding delivered_answer after_quarter
  part_read q place None e = (omega arith, refl)
  part_read q place (Some read) e =
      let fits : read.size ≤ length frame = (reads frame read.value read.size e).fits in
      (omega arith, take_all (length frame - read.size) (drop read.size frame) (omega (arith, length-drop read.size frame)))

  part_judged : (j : Result Judged Refusal) → let a = judged_answer frame j in Part a.start a.length (if_delivered j (after_quarter (read_varint frame) frame))
  unfolding judged_answer if_delivered is_delivered
  part_judged (Err why) = (omega arith, refl)
  part_judged (Ok judged.ShortFrame) = (omega arith, refl)
  part_judged (Ok (judged.QuarterTooLarge q)) = (omega arith, refl)
  part_judged (Ok (judged.BeyondLimit q)) = (omega arith, refl)
  part_judged (Ok (judged.NoStream q)) = (omega arith, refl)
  part_judged (Ok (judged.ReceiveClosed q place)) = (omega arith, refl)
  part_judged (Ok (judged.NoSemantics q place)) = (omega arith, refl)
  part_judged (Ok (judged.TooLong q place)) = (omega arith, refl)
  part_judged (Ok (judged.Delivered q place)) = part_read q place (read_varint frame) refl

pub payload_part : PayloadPart
unfolding payload_of
payload_part t streams limit frame = part_judged frame (judged_of t streams limit frame)

-- ---- a refusal leaves the output

leaves : {bytes out : List ℕ} {place : ℕ} {w : Writing} → Leaves bytes out place w → RefusalLeaves w out
unfolding wrote_by
leaves {out = out} {w = w} l = go w.answer refl
  where
    go : (x : Result ℕ Refusal) → w.answer ≡ x → ((written_answer x).refusal ≡ 0 → ⊥) → w.output ≡ out
    go (Err why) e n = l.refused why e
    go (Ok count) e n = absurd (n (unfold written_answer in refl))

module _ (out : List ℕ) (place : ℕ) where
  value_leaves : (whole : Bool) (t : ℕ) (v : List ℕ) → Leaves (capsule_of t v) out place (write_value whole t v out place)
  unfolding write_value
  value_leaves whole t v = if_leaves _ out place (whole && well_formed t v) (at_leaves (capsule_of t v) out place) (refuses_leaves _ out place malformed_to_write)

  addresses_leave : (t : ℕ) (row : List ℕ) → RefusalLeaves (write_addresses t row out place) out
  unfolding write_addresses
  addresses_leave t row =
      let v = value_bytes entry_bytes (entries_in row) in
      leaves (if_leaves (capsule_of t v) out place (all_of id_fits (entries_in row)) (value_leaves (is_whole entry_size row) t v) (refuses_leaves _ out place number_too_large))

pub refused_write_leaves : RefusedWriteLeaves
unfolding write_routes
refused_write_leaves out place =
    let none : StreamId = record { 0 = 0 } in (
      λ n. leaves (varint_leaves n out place),
      λ t id payload. leaves (writers_leave t id 0 0 0 0 payload out place).0,
      λ t id ours peers path payload. leaves (writers_leave t id ours peers path 0 payload out place).1,
      λ t id ours peers path n. leaves (writers_leave t id ours peers path n [] out place).2,
      λ payload. leaves (writers_leave [] none 0 0 0 0 payload out place).3,
      λ n. leaves (writers_leave [] none 0 0 0 n [] out place).4,
      addresses_leave out place,
      λ row. leaves (value_leaves out place (is_whole range_size row) route (value_bytes range_bytes (ranges_in row))),
    )
