-- What a stream table answers, in numbers.
use Rattle.std.specs.Prelude.{ℕ, Result, Ok, Err}
use Rattle.refusals.specs.declared.Refusal.{Refusal}
use Rattle.stream_records.specs.declared.answers.SideClosed.{SideClosed}
use Rattle.stream_answers.specs.declared.table.OpenedAnswer.{OpenedAnswer}
use Rattle.stream_answers.specs.declared.table.SideClosedAnswer.{SideClosedAnswer}
use Rattle.stream_answers.specs.declared.table.FoundAnswer.{FoundAnswer}
use Rattle.reader_words.specs.Numbers.{bit_of}

unfoldable pub opened_answer : Result ℕ Refusal → OpenedAnswer
opened_answer (Err why) = record { refusal = why.0; place = 0 }
opened_answer (Ok i) = record { refusal = 0; place = i }

unfoldable pub closed_answer : Result SideClosed Refusal → SideClosedAnswer
closed_answer (Err why) = record { refusal = why.0; place = 0; freed = 0 }
closed_answer (Ok side) = record { refusal = 0; place = side.place; freed = bit_of side.freed }

unfoldable pub found_answer : Result ℕ Refusal → FoundAnswer
found_answer (Err why) = record { refusal = why.0; place = 0 }
found_answer (Ok i) = record { refusal = 0; place = i }
