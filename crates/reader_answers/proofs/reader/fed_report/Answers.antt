-- One answer for each report.
use Rattle.reader_answers.proofs.Terms.{length_of, report_error, error_number, report_number, type_of, fed_report}
use Rattle.reader_answers.proofs.reader.fed_report.Goals as goal

pub returns-in-Delivered : goal.returns-in-Delivered
unfolding fed_report report_number type_of length_of report_error error_number
returns-in-Delivered c = rw c.in-Delivered.is

pub returns-in-Dropped : goal.returns-in-Dropped
unfolding fed_report report_number type_of length_of report_error error_number
returns-in-Dropped c = rw c.in-Dropped.is

pub returns-in-Skipped : goal.returns-in-Skipped
unfolding fed_report report_number type_of length_of report_error error_number
returns-in-Skipped c = rw c.in-Skipped.is

pub returns-in-Passed : goal.returns-in-Passed
unfolding fed_report report_number type_of length_of report_error error_number
returns-in-Passed c = rw c.in-Passed.is

pub returns-in-AddressDelivered : goal.returns-in-AddressDelivered
unfolding fed_report report_number type_of length_of report_error error_number
returns-in-AddressDelivered c = rw c.in-AddressDelivered.is

pub returns-in-Malformed : goal.returns-in-Malformed
unfolding fed_report report_number type_of length_of report_error error_number
returns-in-Malformed c = rw (c.error_number.ensures, c.report_error.ensures, c.in-Malformed.is)
