-- Sending as the code decides it by what was looked up. Assumes nothing.
use Rattle.std.specs.Prelude.{Result}
use Rattle.refusals.specs.declared.Refusal.{Refusal}
use Rattle.wire.specs.declared.units.Quarter.{Quarter}
use Rattle.walks.proofs.Words.{◌≡◌, ap, ℕ, true, List}
use Rattle.sending.proofs.Terms.{StreamId, Table, lookup_of, sought, sends, agreed, capsule_written, frame_written, frame_header_written, write_capsule, write_frame, write_frame_header, capsule_by, frame_by, frame_header_by, SentByLookup}

pub sent_by_lookup : SentByLookup
unfolding capsule_by frame_by write_capsule write_frame
sent_by_lookup t id payload out place = (
  ap (λ (s : Result Quarter Refusal). capsule_written s payload out place) (sends t id true),
  λ ours peers path. ap (λ (s : Result Quarter Refusal). frame_written s path payload out place) (sends t id (agreed ours peers)),
)

pub header_by_lookup : (t : Table) (id : StreamId) (ours peers path n : ℕ) (out : List ℕ) (place : ℕ) → frame_header_by (lookup_of (sought id) t) id ours peers path n out place ≡ write_frame_header t id ours peers path n out place
unfolding frame_header_by write_frame_header
header_by_lookup t id ours peers path n out place = ap (λ (s : Result Quarter Refusal). frame_header_written s path n out place) (sends t id (agreed ours peers))
