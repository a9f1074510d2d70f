-- What a writer did.
use Rattle.std.specs.Prelude.{ℕ, List}
use Rattle.wire.specs.Writing.{Writing}
use Rattle.answers.specs.declared.varint.WrittenAnswer.{WrittenAnswer}
use Rattle.answers.specs.Varint.{written_answer}

-- the answer, and the whole output afterwards
pub record Answered : Type 0 where
  pub answer : WrittenAnswer
  pub output : List ℕ

abbrev pub wrote : WrittenAnswer → List ℕ → Answered
wrote a out = record { answer = a; output = out }

-- what writing at a place of the output does (crate wire), with its answer in numbers
unfoldable pub wrote_by : Writing → Answered
wrote_by w = wrote (written_answer w.answer) w.output
