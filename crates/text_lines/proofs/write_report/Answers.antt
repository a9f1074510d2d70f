-- By the six reports; each is one line that `write_one` or `write_two` writes.
use Rattle.walks.proofs.Words.{arith}
use Rattle.text_lines.proofs.Terms.{report_line, text}
use Rattle.text_lines.proofs.write_report.Goals as goal

pub returns-in-Delivered : goal.returns-in-Delivered
unfolding report_line text
returns-in-Delivered c = rw (c.in-Delivered.is, report_line) (record { out_after = c.write_one.ensures.out_after; report_len_bound = omega (arith, c.write_one.ensures.n_in_bounds) })

pub returns-in-Dropped : goal.returns-in-Dropped
unfolding report_line text
returns-in-Dropped c = rw (c.in-Dropped.is, report_line) (record { out_after = c.write_one-in-Dropped.ensures.out_after; report_len_bound = omega (arith, c.write_one-in-Dropped.ensures.n_in_bounds) })

pub returns-in-Skipped : goal.returns-in-Skipped
unfolding report_line text
returns-in-Skipped c = rw (c.in-Skipped.is, report_line) (record { out_after = c.write_two.ensures.out_after; report_len_bound = omega (arith, c.write_two.ensures.n_in_bounds) })

pub returns-in-Passed : goal.returns-in-Passed
unfolding report_line text
returns-in-Passed c = rw (c.in-Passed.is, report_line) (record { out_after = c.write_two-in-Passed.ensures.out_after; report_len_bound = omega (arith, c.write_two-in-Passed.ensures.n_in_bounds) })

pub returns-in-AddressDelivered : goal.returns-in-AddressDelivered
unfolding report_line text
returns-in-AddressDelivered c = rw (c.in-AddressDelivered.is, report_line) (record { out_after = c.write_two-in-AddressDelivered.ensures.out_after; report_len_bound = omega (arith, c.write_two-in-AddressDelivered.ensures.n_in_bounds) })

pub returns-in-Malformed : goal.returns-in-Malformed
unfolding report_line text
returns-in-Malformed c = rw (c.in-Malformed.is, report_line) (record { out_after = c.write_two-in-Malformed.ensures.out_after; report_len_bound = omega (arith, c.write_two-in-Malformed.ensures.n_in_bounds) })
