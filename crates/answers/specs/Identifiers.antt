-- Stream IDs and quarter stream IDs converted, in numbers. `quarter_of` and `stream_of` (crate wire) decide.
use Rattle.std.specs.Prelude.{Option, Some, None}
use Rattle.wire.specs.declared.units.Quarter.{Quarter}
use Rattle.wire.specs.declared.units.StreamId.{StreamId}
use Rattle.refusals.specs.Numbers.{not_a_request_stream}
use Rattle.answers.specs.declared.identifiers.QuarterAnswer.{QuarterAnswer}
use Rattle.answers.specs.declared.identifiers.StreamIdAnswer.{StreamIdAnswer}

unfoldable pub quarter_answer : Option Quarter → QuarterAnswer
quarter_answer None = record { refusal = not_a_request_stream.0; quarter = 0 }
quarter_answer (Some q) = record { refusal = 0; quarter = q.0 }

unfoldable pub stream_answer : Option StreamId → StreamIdAnswer
stream_answer None = record { too_large = 1; stream_id = 0 }
stream_answer (Some id) = record { too_large = 0; stream_id = id.0 }
