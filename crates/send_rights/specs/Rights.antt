-- Who may send to a stream (document 01, "Writers, settings, messages").
use Rattle.refusals.specs.declared.Refusal.{Refusal}
use Rattle.std.specs.Prelude.{ℕ, Bool, cond, ◌&&◌, eqb, Option, Some, None, Result, Ok, Err}
use Rattle.refusals.specs.Numbers.{not_a_request_stream, not_in_table, frames_not_agreed, send_side_closed, no_semantics, bad_table}
use Rattle.wire.specs.declared.units.StreamId.{StreamId}
use Rattle.wire.specs.declared.units.Quarter.{Quarter}
use Rattle.wire.specs.Units.{quarter_of}
use Rattle.stream_records.specs.declared.record.StreamRecord.{StreamRecord}
use Rattle.stream_records.specs.declared.answers.Entry.{Entry}
use Rattle.stream_records.specs.Records.{send_open, has_semantics}
use Rattle.stream_records.specs.Tables.{Table, is_bad, entry_of}

-- sending a frame needs our setting and the peer's both 1
unfoldable pub agreed : ℕ → ℕ → Bool
agreed ours peers = eqb ours 1 && eqb peers 1

-- 11, 12, 13
unfoldable pub sending_record : StreamRecord → Quarter → Bool → Result Quarter Refusal
sending_record r q settings =
    cond settings (cond (send_open r) (cond (has_semantics r) (Ok q) (Err no_semantics)) (Err send_side_closed)) (Err frames_not_agreed)

-- 10
unfoldable pub sending_entry : Option Entry → Quarter → Bool → Result Quarter Refusal
sending_entry None q settings = Err not_in_table
sending_entry (Some found) q settings = sending_record found.stream q settings

-- 15, 7, 10, then 11, 12, 13
unfoldable pub sending_of : Table → StreamId → Bool → Result Quarter Refusal
sending_of t id settings =
    cond (is_bad t)
    (Err bad_table)
    (elim (quarter_of id) [ None ↦ Err not_a_request_stream | Some q ↦ sending_entry (entry_of q.0 t) q settings ])
