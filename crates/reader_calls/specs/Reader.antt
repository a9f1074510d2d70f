-- Opening, feeding and closing a reader that is kept in words. `open_of`, `feed_of` and `close_of` (crate capsule) say what each does.
use Rattle.refusals.specs.declared.Refusal.{Refusal}
use Rattle.capsule.specs.declared.reader.Ending.{Ending}
use Rattle.capsule.specs.declared.reader.Advance.{Advance}
use Rattle.std.specs.Prelude.{ℕ, List, Option, Some, None, Result, Ok, Err}
use Rattle.refusals.specs.Numbers.{unmakeable_state}
use Rattle.capsule.specs.declared.reader.Reader.{Reader}
use Rattle.capsule.specs.declared.reader.Closed.{Closed}
use Rattle.capsule.specs.Calls.{Lent}
use Rattle.capsule.specs.Reader.{open_of, Feeding, feed_of, close_of}
use Rattle.reader_answers.specs.declared.reader.FedAnswer.{FedAnswer}
use Rattle.reader_answers.specs.declared.reader.ClosedAnswer.{ClosedAnswer}
use Rattle.reader_words.specs.Numbers.{role_of, flag_of}
use Rattle.reader_words.specs.Words.{words_of, reader_in}
use Rattle.reader_answers.specs.Reader.{fed_refused, fed_answer, closed_answer}

-- ---- opening

-- the refusal's number or 0, and the words afterwards
pub record OpenDone : Type 0 where
  pub answer : ℕ
  pub words : List ℕ

abbrev pub opened : ℕ → List ℕ → OpenDone
opened a ws = record { answer = a; words = ws }

unfoldable pub opened_at : List ℕ → Result Reader Refusal → OpenDone
opened_at ws (Err why) = opened why.0 ws
opened_at ws (Ok r) = opened 0 (words_of r)

unfoldable pub open_words : List ℕ → ℕ → ℕ → ℕ → ℕ → OpenDone
open_words ws role limit draft addresses = opened_at ws (open_of (role_of role) limit (flag_of draft) (flag_of addresses))

-- ---- feeding

-- the answer, the words and all buffers afterwards
pub record FeedDone : Type 0 where
  pub answer : FedAnswer
  pub words : List ℕ
  pub buffers : Lent

abbrev pub fed : FedAnswer → List ℕ → Lent → FeedDone
fed a ws b = record { answer = a; words = ws; buffers = b }

-- a refusal stores no words
unfoldable pub words_fed : List ℕ → Reader → Result Advance Refusal → List ℕ
words_fed ws r (Err why) = ws
words_fed ws r (Ok took) = words_of r

unfoldable pub fed_by : List ℕ → Feeding → FeedDone
fed_by ws f = fed (fed_answer f.answer) (words_fed ws f.reader f.answer) f.buffers

-- words that are no reader's stored form are no state that opening, feeding and closing make
unfoldable pub feed_loaded : List ℕ → List ℕ → Lent → Option Reader → FeedDone
feed_loaded ws p b None = fed (fed_refused unmakeable_state) ws b
feed_loaded ws p b (Some r) = fed_by ws (feed_of r p b)

unfoldable pub feed_words : List ℕ → List ℕ → Lent → FeedDone
feed_words ws p b = feed_loaded ws p b (reader_in ws)

-- ---- clean close

-- the answer, and the words afterwards
pub record CloseDone : Type 0 where
  pub answer : ClosedAnswer
  pub words : List ℕ

abbrev pub closed : ClosedAnswer → List ℕ → CloseDone
closed a ws = record { answer = a; words = ws }

unfoldable pub words_closed : List ℕ → Reader → Result Ending Refusal → List ℕ
words_closed ws r (Err why) = ws
words_closed ws r (Ok e) = words_of r

unfoldable pub closed_by : List ℕ → Closed → CloseDone
closed_by ws c = closed (closed_answer c.answer) (words_closed ws c.reader c.answer)

unfoldable pub close_loaded : List ℕ → Option Reader → CloseDone
close_loaded ws None = closed (closed_answer (Err unmakeable_state)) ws
close_loaded ws (Some r) = closed_by ws (close_of r)

unfoldable pub close_words : List ℕ → CloseDone
close_words ws = close_loaded ws (reader_in ws)
