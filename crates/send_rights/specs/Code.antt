-- Only for the proofs of the code: who may send, by what was looked up. `Rights` says who may.
use Rattle.refusals.specs.declared.Refusal.{Refusal}
use Rattle.stream_records.specs.declared.answers.Entry.{Entry}
use Rattle.wire.specs.declared.units.Quarter.{Quarter}
use Rattle.std.specs.Prelude.{Bool, Option, Some, None, Result, Ok, Err}
use Rattle.refusals.specs.Numbers.{not_a_request_stream}
use Rattle.wire.specs.declared.units.StreamId.{StreamId}
use Rattle.wire.specs.Units.{quarter_of}
use Rattle.send_rights.specs.Rights.{sending_entry}

unfoldable pub sending_by : Result (Option Entry) Refusal → StreamId → Bool → Result Quarter Refusal
sending_by (Err why) id settings = Err why
sending_by (Ok entry) id settings = elim (quarter_of id) [ None ↦ Err not_a_request_stream | Some q ↦ sending_entry entry q settings ]
