-- `whole_cut` and `whole-taken`; what is moved fits (`fits`).
use Rattle.walks.proofs.Words.{arith}
use Rattle.fast_paths.proofs.FastPaths.{fits, whole_cut, whole-taken}
use Rattle.fast_paths.proofs.take_whole.Goals as goal

pub move_bytes-cut-requires : goal.move_bytes-cut-requires
move_bytes-cut-requires c = fits _ _ _ _ _ c.requires.0 _ _ _ _ _ c.requires.3 (omega arith) (omega (arith, c.if-size-room.true))

pub returns-then-size-room : goal.returns-then-size-room
returns-then-size-room c = whole_cut _ _ _ _ _ _ c.requires.1 c.requires.2 (c.type_inv.piece 2).fits c.requires.0 _ _ _ c.if-size-room.true c.move_bytes-cut.ensures.gathering_after c.move_bytes-cut.ensures.wrote

pub move_bytes-written-requires : goal.move_bytes-written-requires
move_bytes-written-requires c = fits _ _ _ _ _ c.requires.0 _ _ _ _ _ (omega arith) (omega (arith, c.if-size-room.false, c.requires.3)) (omega arith)

pub returns : goal.returns
returns c = whole-taken _ _ _ _ _ _ c.requires.1 c.requires.2 (c.type_inv.piece 2).fits c.requires.0 _ _ _ c.if-size-room.false _ c.report.ensures c.move_bytes-written.ensures.gathering_after c.move_bytes-written.ensures.wrote
