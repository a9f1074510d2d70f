-- Definitions, and laws of the crates below, that the proofs here use, passed on: one `use` in place of many.
unfoldable pub use Rattle.answers.specs.{Numbers.end_number, Numbers.error_number}
unfoldable pub use Rattle.http_errors.specs.{Ties.report_error}
unfoldable pub use Rattle.opening.specs.{Kinds.length_of}
unfoldable pub use Rattle.reader_answers.specs.{Reader.close_refusal, Reader.closed_answer, Reader.fed_report, Reader.fed_took, Reader.report_number, Reader.type_of, Sight.buffer_number, Sight.looked_answer, Sight.sight_answer}
