-- Definitions, and laws of the crates below, that the proofs here use, passed on: one `use` in place of many.
pub use Rattle.fast_paths.proofs.{FastPaths.inside_ended_fed, FastPaths.inside_fed_lem, FastPaths.inside_not, FastPaths.whole_cut_fed, FastPaths.whole-fed, FastPaths.whole_not}
pub use Rattle.capsule.specs.{Calls.Lent, Reader.feeding, Reader.fresh, declared.reader.Closed.Closed, declared.reader.Reader.Reader}
pub use Rattle.fast_paths.specs.{FastPaths.in_value, FastPaths.inside_fed, FastPaths.whole_fed}
unfoldable pub use Rattle.capsule.specs.{Reader.close_of, Reader.feed_of}
unfoldable pub use Rattle.fast_paths.specs.{FastPaths.inside_of, FastPaths.whole_of}
pub use Rattle.opening.specs.{declared.Opening.Opening, declared.Report.Report}
pub use Rattle.reader_answers.specs.{Reader.fed_refused, declared.reader.ClosedAnswer.ClosedAnswer, declared.reader.FedAnswer.FedAnswer}
unfoldable pub use Rattle.reader_answers.specs.{Reader.closed_answer, Reader.fed_answer, Reader.fed_report, Reader.fed_took}
pub use Rattle.reader_calls.specs.{Reader.FeedDone, Reader.closed, Reader.fed}
unfoldable pub use Rattle.reader_calls.specs.{Reader.close_loaded, Reader.close_words, Reader.closed_by, Reader.fed_by, Reader.feed_loaded, Reader.feed_words, Reader.open_words, Reader.opened_at, Reader.words_closed, Reader.words_fed, ShortWords.TriedRight}
pub use Rattle.reader_words.proofs.{Position.between_reads, Position.within_reads, StoredForm.read_as_stored}
unfoldable pub use Rattle.reader_words.specs.{Words.opening_in, Words.phase_words, Words.reader_in, Words.words_of}
pub use Rattle.refusals.specs.{Numbers.unmakeable_state, declared.Refusal.Refusal}
