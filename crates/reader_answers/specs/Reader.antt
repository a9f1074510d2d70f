-- What a feeding and a clean close answer, in numbers.
use Rattle.capsule.specs.declared.reader.Ending.{Ending}
use Rattle.capsule.specs.declared.reader.Ending.TheVariants.{Clean, Truncated}
use Rattle.capsule.specs.declared.reader.Advance.{Advance}
use Rattle.std.specs.Prelude.{ℕ, Option, Some, None, Result, Ok, Err}
use Rattle.refusals.specs.declared.Refusal.{Refusal}
use Rattle.opening.specs.declared.Report.{Report}
use Rattle.opening.specs.declared.Report.TheVariants.{Delivered, Dropped, Skipped, Passed, AddressDelivered, Malformed}
use Rattle.opening.specs.Kinds.{length_of}
use Rattle.http_errors.specs.Ties.{close_error, report_error}
use Rattle.reader_answers.specs.declared.reader.FedAnswer.{FedAnswer}
use Rattle.reader_answers.specs.declared.reader.ClosedAnswer.{ClosedAnswer}
use Rattle.answers.specs.Numbers.{error_number, end_number}

unfoldable pub report_number : Report → ℕ
report_number (Delivered n) = 1
report_number (Dropped n) = 2
report_number (Skipped t n) = 3
report_number (Passed t n) = 4
report_number (AddressDelivered t n) = 5
report_number (Malformed t n) = 6

-- the type is said of what is no DATAGRAM
unfoldable pub type_of : Report → ℕ
type_of (Delivered n) = 0
type_of (Dropped n) = 0
type_of (Skipped t n) = t
type_of (Passed t n) = t
type_of (AddressDelivered t n) = t
type_of (Malformed t n) = t

unfoldable pub fed_report : ℕ → ℕ → Report → FedAnswer
fed_report consumed written report =
    record { refusal = 0; consumed = consumed; written = written; report = report_number report; ctype = type_of report; length = length_of report; error = error_number (report_error report) }

-- 0 where no capsule ended
unfoldable pub fed_took : ℕ → ℕ → Option Report → FedAnswer
fed_took consumed written None = record { refusal = 0; consumed = consumed; written = written; report = 0; ctype = 0; length = 0; error = 0 }
fed_took consumed written (Some report) = fed_report consumed written report

abbrev pub fed_refused : Refusal → FedAnswer
fed_refused why = record { refusal = why.0; consumed = 0; written = 0; report = 0; ctype = 0; length = 0; error = 0 }

unfoldable pub fed_answer : Result Advance Refusal → FedAnswer
fed_answer (Err why) = fed_refused why
fed_answer (Ok took) = fed_took took.consumed took.written took.ended

unfoldable pub close_refusal : Result Ending Refusal → ℕ
close_refusal (Err why) = why.0
close_refusal (Ok Clean) = 0
close_refusal (Ok Truncated) = 0

unfoldable pub closed_answer : Result Ending Refusal → ClosedAnswer
closed_answer a = record { refusal = close_refusal a; end = end_number a; error = error_number (close_error a) }
