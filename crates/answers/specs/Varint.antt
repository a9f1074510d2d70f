-- Varints read and written, in numbers.
use Rattle.std.specs.Prelude.{Option, Some, None, Result, Ok, Err}
use Rattle.short_forms.specs.declared.Varint.{Varint}
use Rattle.refusals.specs.declared.Refusal.{Refusal}
use Rattle.std.specs.Prelude.{ℕ}
use Rattle.answers.specs.declared.varint.VarintAnswer.{VarintAnswer}
use Rattle.answers.specs.declared.varint.WrittenAnswer.{WrittenAnswer}

-- no varint has size 0: that is incomplete
unfoldable pub varint_answer : Option Varint → VarintAnswer
varint_answer None = record { value = 0; size = 0 }
varint_answer (Some read) = record { value = read.value; size = read.size }

unfoldable pub written_answer : Result ℕ Refusal → WrittenAnswer
written_answer (Err why) = record { refusal = why.0; written = 0 }
written_answer (Ok count) = record { refusal = 0; written = count }
