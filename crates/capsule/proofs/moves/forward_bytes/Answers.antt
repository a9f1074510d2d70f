-- The held bytes, then the run: `wrote_first`.
use Rattle.walks.proofs.Words.{arith}
use Rattle.capsule.proofs.Moving.{wrote_first, wrote_none}
use Rattle.capsule.proofs.moves.forward_bytes.Goals as goal

pub put_held-requires : goal.put_held-requires
put_held-requires c = (c.requires.1, omega (arith, c.requires.2 c.if-not-forward.false))

pub returns-then-not-forward : goal.returns-then-not-forward
returns-then-not-forward c = wrote_none _ _ _ _ _ c.if-not-forward.true

pub returns : goal.returns
returns c =
    let pre = c.requires in
    let took = c.if-not-forward.false in
    wrote_first _ _ _ _ _ _ c.from-first.ensures took pre.0 (pre.2 took) _ c.put_held.ensures _ _ c.copy_span.ensures
