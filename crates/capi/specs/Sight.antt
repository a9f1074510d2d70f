-- A look at a reader that is kept in words. `look_of` (crate look) decides.
use Rattle.std.specs.Prelude.{ℕ, List, Some, None, Err}
use Rattle.refusals.specs.Numbers.{unmakeable_state}
use Rattle.look.specs.Looking.{look_of}
use Rattle.reader_answers.specs.declared.sight.LookAnswer.{LookAnswer}
use Rattle.reader_words.specs.Words.{reader_in}
use Rattle.reader_answers.specs.Sight.{looked_answer}

-- words that are no reader's stored form are refused 1
unfoldable pub look_words : List ℕ → LookAnswer
look_words ws = elim (reader_in ws) [ None ↦ looked_answer (Err unmakeable_state) | Some r ↦ looked_answer (look_of r) ]
