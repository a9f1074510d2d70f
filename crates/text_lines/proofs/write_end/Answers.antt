-- By the three answers; each is one line that `write_text` or `write_one` writes.
use Rattle.walks.proofs.Words.{arith}
use Rattle.text_lines.proofs.Terms.{end_line, text}
use Rattle.text_lines.proofs.write_end.Goals as goal

pub returns-in-Clean : goal.returns-in-Clean
unfolding end_line text
returns-in-Clean c = rw (c.in-Ok.is, c.in-Clean.is, end_line) (record { out_after = c.write_text.ensures; end_len_bound = omega arith })

pub returns-in-Truncated : goal.returns-in-Truncated
unfolding end_line text
returns-in-Truncated c = rw (c.in-Ok.is, c.in-Truncated.is, end_line) (record { out_after = c.write_text-in-Truncated.ensures; end_len_bound = omega arith })

pub returns-in-Err : goal.returns-in-Err
unfolding end_line text
returns-in-Err c = rw (c.in-Err.is, end_line) (record { out_after = c.write_one.ensures.out_after; end_len_bound = omega (arith, c.write_one.ensures.n_in_bounds) })
