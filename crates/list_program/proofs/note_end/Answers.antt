-- One line: `noted` of Noting.
use Rattle.walks.proofs.Words.{arith}
use Rattle.list_program.proofs.Noting.{noted}
use Rattle.list_program.proofs.note_end.Goals as goal

pub overflow_add-result : goal.overflow_add-result
overflow_add-result c = omega (arith, (noted _ _ _ _ _ c.write_end.ensures.out_after c.write_end.ensures.end_len_bound c.requires _ c.unwrap_or.ensures).within)

pub returns : goal.returns
returns c = noted _ _ _ _ _ c.write_end.ensures.out_after c.write_end.ensures.end_len_bound c.requires _ c.unwrap_or.ensures
