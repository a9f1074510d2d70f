-- Definitions, and laws of the crates below, that the proofs here use, passed on: one `use` in place of many.
unfoldable pub use Rattle.answers.specs.{Numbers.error_number}
unfoldable pub use Rattle.http_errors.specs.{Ties.judged_error}
unfoldable pub use Rattle.judging.specs.{Judging.place_in, Judging.quarter_in, Judging.rule_of}
unfoldable pub use Rattle.stream_answers.specs.{Frames.delivered_answer, Frames.judged_answer, Frames.or_zero, Table.closed_answer, Table.found_answer, Table.opened_answer}
pub use Rattle.wire.proofs.{Reading.reads}
