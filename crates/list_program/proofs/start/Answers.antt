-- The first line waits: `noted` of Noting.
use Rattle.walks.proofs.Words.{arith, refl}
use Rattle.list_program.proofs.Noting.{noted}
use Rattle.list_program.proofs.start.Goals as goal

pub returns-clause-state : goal.returns-clause-state
returns-clause-state c =
    let line = noted _ _ 0 _ _ c.write_limit.ensures.out_after c.write_limit.ensures.limit_len_bound (omega arith) _ c.unwrap_or.ensures in
    record { same = refl; used = omega arith; have = omega arith; held = omega (arith, line.within, c.write_limit.auto.out) }

pub returns-clause-waits : goal.returns-clause-waits
returns-clause-waits c =
    let line = noted _ _ 0 _ _ c.write_limit.ensures.out_after c.write_limit.ensures.limit_len_bound (omega arith) _ c.unwrap_or.ensures in
    record { placed = line.placed; counted = omega (arith, line.counted); within = omega (arith, line.within) }
