-- What holds of judging and writing together: each claim is a type here, and is proved in proofs/ under its name in lower case with dashes.
use Rattle.std.specs.Prelude.{ℕ, ◌^◌, ◌≤◌, ◌<◌, ◌≡◌, true, false, List, [], ◌∷◌, length, get_or, Some, Ok, Err}
use Rattle.refusals.specs.Numbers.{bad_table}
use Rattle.wire.specs.declared.units.StreamId.{StreamId}
use Rattle.wire.specs.Writing.{refuses}
use Rattle.stream_records.specs.Records.{blank, receive_open, has_semantics}
use Rattle.stream_records.specs.Tables.{Table, is_bad, find}
use Rattle.capsule.specs.Grammar.{in_type, parts}
use Rattle.judging.specs.declared.judge.Judged.TheVariants as judged
use Rattle.judging.specs.Judging.{quarter, judged_of, payload_of}
use Rattle.sending.specs.Sending.{capsule_bytes, frame_bytes, write_capsule, write_frame}

-- a written capsule is, by the grammar, one complete DATAGRAM capsule with that payload, and nothing is left over
abbrev pub CapsuleReadBack : Type 0
CapsuleReadBack =
    (payload : List ℕ)
    → length payload ≤ 65535
    → parts (capsule_bytes payload) ≡ record { capsules = record { ctype = 0; size = length payload; value = payload; bytes = capsule_bytes payload } ∷ []; tail = []; stage = in_type }

-- a written frame is judged delivered, same stream, same payload, by any table that holds the quarter open for receiving with
-- semantics for datagrams, under limits that allow it
pub record Receives (t : Table) (streams limit q place : ℕ) : Type 0 where
  pub good : is_bad t ≡ false
  pub found : find q t ≡ Some place
  pub opened : receive_open (get_or t place blank) ≡ true
  pub knows : has_semantics (get_or t place blank) ≡ true
  pub below : q < streams
  pub stated : streams ≤ 2 ^ 60
  pub limited : limit ≤ 65535

abbrev pub FrameReadBack : Type 0
FrameReadBack =
    (t : Table) (streams limit q place : ℕ) (payload : List ℕ)
    → Receives t streams limit q place
    → length payload ≤ limit
    → (judged_of t streams limit (frame_bytes q payload) ≡ Ok (judged.Delivered (quarter q) place)) × (payload_of t streams limit (frame_bytes q payload) ≡ payload)

-- more than 64 records, whatever they hold, are refused 15
abbrev pub TooManyRefused : Type 0
TooManyRefused =
    (t : Table) → 64 < length t → (id : StreamId)
    → ((streams limit : ℕ) (frame : List ℕ) → judged_of t streams limit frame ≡ Err bad_table)
    × ((payload out : List ℕ) (place : ℕ) → write_capsule t id payload out place ≡ refuses bad_table out)
    × ((ours peers path : ℕ) (payload out : List ℕ) (place : ℕ) → write_frame t id ours peers path payload out place ≡ refuses bad_table out)
