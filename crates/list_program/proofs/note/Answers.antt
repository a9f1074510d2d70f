-- Nothing, or a line: `noted` of Noting.
use Rattle.walks.proofs.Words.{arith}
use Rattle.list_program.proofs.Terms.{line_in}
use Rattle.list_program.proofs.Noting.{noted}
use Rattle.list_program.proofs.note.Goals as goal

pub overflow_add-result : goal.overflow_add-result
overflow_add-result c = omega (arith, (noted _ _ _ _ _ c.write_report.ensures.out_after c.write_report.ensures.report_len_bound c.requires _ c.unwrap_or.ensures).within)

pub returns-in-Some : goal.returns-in-Some
unfolding line_in
returns-in-Some c = rw (c.in-Some.is, line_in) (noted _ _ _ _ _ c.write_report.ensures.out_after c.write_report.ensures.report_len_bound c.requires _ c.unwrap_or.ensures)
