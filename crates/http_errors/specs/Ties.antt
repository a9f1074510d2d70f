-- Which error an answer is (document 01: the names of the errors, of the closing answers and of the rules). No other answer is one.
use Rattle.std.specs.Prelude.{Option, Some, None, Result, Ok, Err}
use Rattle.refusals.specs.declared.Refusal.{Refusal}
use Rattle.capsule.specs.declared.reader.Ending.{Ending}
use Rattle.capsule.specs.declared.reader.Ending.TheVariants.{Clean, Truncated}
use Rattle.http_messages.specs.declared.errors.HttpError.{HttpError}
use Rattle.opening.specs.declared.Report.{Report}
use Rattle.opening.specs.declared.Report.TheVariants as report
use Rattle.judging.specs.declared.judge.Judged.{Judged}
use Rattle.judging.specs.declared.judge.Judged.TheVariants as judged
use Rattle.http_messages.specs.Errors.{truncated, no_semantics, short_frame, quarter_too_large, beyond_limit, malformed, http_error}

unfoldable pub close_error : Result Ending Refusal → Option HttpError
close_error (Err r) = None
close_error (Ok Clean) = None
close_error (Ok Truncated) = Some (http_error truncated)

unfoldable pub report_error : Report → Option HttpError
report_error (report.Delivered n) = None
report_error (report.Dropped n) = None
report_error (report.Skipped t n) = None
report_error (report.Passed t n) = None
report_error (report.AddressDelivered t n) = None
report_error (report.Malformed t n) = Some (http_error malformed)

unfoldable pub judged_error : Result Judged Refusal → Option HttpError
judged_error (Err r) = None
judged_error (Ok judged.ShortFrame) = Some (http_error short_frame)
judged_error (Ok (judged.QuarterTooLarge q)) = Some (http_error quarter_too_large)
judged_error (Ok (judged.BeyondLimit q)) = Some (http_error beyond_limit)
judged_error (Ok (judged.NoStream q)) = None
judged_error (Ok (judged.ReceiveClosed q place)) = None
judged_error (Ok (judged.NoSemantics q place)) = Some (http_error no_semantics)
judged_error (Ok (judged.TooLong q place)) = None
judged_error (Ok (judged.Delivered q place)) = None
