-- Opening a stream and closing a side of one, in numbers. `opening_of` and `closing_of` (crate streams) decide.
use Rattle.std.specs.Prelude.{ℕ}
use Rattle.wire.specs.declared.units.StreamId.{StreamId}
use Rattle.stream_records.specs.Tables.{Table, opening_of, table_opened, closing_of, table_closed}
use Rattle.stream_answers.specs.declared.table.OpenedAnswer.{OpenedAnswer}
use Rattle.stream_answers.specs.declared.table.SideClosedAnswer.{SideClosedAnswer}
use Rattle.reader_words.specs.Numbers.{flag_of}
use Rattle.answers.specs.Numbers.{side_of}
use Rattle.stream_answers.specs.Table.{opened_answer, closed_answer}

abbrev pub stream_id_of : ℕ → StreamId
stream_id_of id = record { 0 = id }

-- ---- opening: the answer, and the table afterwards

pub record OpenDone : Type 0 where
  pub answer : OpenedAnswer
  pub table : Table

abbrev pub opened : OpenedAnswer → Table → OpenDone
opened a t = record { answer = a; table = t }

unfoldable pub open_table : Table → ℕ → ℕ → OpenDone
open_table t id semantics =
    let o = opening_of t (stream_id_of id) in
    opened (opened_answer o) (table_opened t (stream_id_of id) (flag_of semantics) o)

-- ---- closing a side: the answer, and the table afterwards

pub record CloseDone : Type 0 where
  pub answer : SideClosedAnswer
  pub table : Table

abbrev pub closed : SideClosedAnswer → Table → CloseDone
closed a t = record { answer = a; table = t }

unfoldable pub close_table : Table → ℕ → ℕ → CloseDone
close_table t id side =
    let c = closing_of t (stream_id_of id) (side_of side) in
    closed (closed_answer c) (table_closed t (side_of side) c)
