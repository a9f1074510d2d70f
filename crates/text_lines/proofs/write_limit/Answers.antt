-- One line with one number.
use Rattle.walks.proofs.Words.{arith}
use Rattle.text_lines.proofs.Terms.{limit_line, text}
use Rattle.text_lines.proofs.write_limit.Goals as goal

pub returns : goal.returns
unfolding limit_line text
returns c = record { out_after = c.write_one.ensures.out_after; limit_len_bound = omega (arith, c.write_one.ensures.n_in_bounds) }
