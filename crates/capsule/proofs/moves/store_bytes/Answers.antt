-- `copy_span`, where it is called.
use Rattle.capsule.proofs.Moving.{stored_some}
use Rattle.capsule.proofs.moves.store_bytes.Goals as goal

pub returns-then-store : goal.returns-then-store
returns-then-store c =
    let pre = c.requires in
    let took = c.if-store.true in
    stored_some _ _ _ _ _ _ took pre.0 pre.1 (pre.2 took) c.copy_span.result _ c.copy_span.ensures
