-- Definitions, and laws of the crates below, that the proofs here use, passed on: one `use` in place of many.
pub use Rattle.http_messages.proofs.{Deciding.is_error, Deciding.no_error}
pub use Rattle.walks.proofs.{Impossible.zero_one}
pub use Rattle.http_messages.specs.{Errors.Error, Errors.malformed, Errors.truncated}
unfoldable pub use Rattle.http_messages.specs.{Errors.number}
pub use Rattle.http_errors.specs.{Cases.Cases, Claims.CloseErrorExactly, Claims.JudgedErrorExactly, Claims.MalformedAsTruncated, Claims.ReportErrorExactly, Translation.Version, Translation.errors, Translation.http1, Translation.http2, Translation.http3, Translation.versions, declared.translation.Action.Action}
unfoldable pub use Rattle.http_errors.specs.{Ties.close_error, Ties.judged_error, Ties.report_error, Translation.answer, Translation.becomes, Translation.nth, Translation.row_of, Translation.translated}
unfoldable pub use Rattle.judging.specs.{Judging.rule_of}
pub use Rattle.refusals.specs.{Numbers.unknown_error_or_version}
