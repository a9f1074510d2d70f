-- Definitions, and laws of the crates below, that the proofs here use, passed on: one `use` in place of many.
pub use Rattle.opening.specs.{declared.Report.TheVariants.AddressDelivered, declared.Report.TheVariants.Delivered, declared.Report.TheVariants.Dropped, declared.Report.TheVariants.Malformed, declared.Report.TheVariants.Passed, declared.Report.TheVariants.Skipped}
pub use Rattle.text_lines.specs.{Claims.AllDigits, Claims.DigitsOnly, Claims.LinesDiffer, Claims.ListingOfS, Claims.NoLeadingZero, Claims.OtherLines, Claims.Placed, Claims.ReadBack, Claims.Said, Claims.end, Claims.limit, Claims.line_of, Claims.report, Writing.writing}
unfoldable pub use Rattle.text_lines.specs.{Decimal.decimal, Decimal.decimal_by, Decimal.last_digit, Decimal.value, Decimal.value_from, Lines.end_line, Lines.limit_line, Lines.one_number, Lines.report_line, Lines.two_numbers, Writing.write_at}
pub use Rattle.walks.proofs.{Impossible.no_true}
pub use Rattle.wire.proofs.{Numbers.sets-append, Reading.split}
unfoldable pub use Rattle.text_bytes.specs.{Text.text}
