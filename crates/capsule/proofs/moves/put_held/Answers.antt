-- The last bytes of the number, by `put_last`.
use Rattle.capsule.proofs.Moving.{put_last}
use Rattle.capsule.proofs.moves.put_held.Goals as goal

pub returns : goal.returns
returns c =
    rw c.from-n.ensures (put_last c.args.held.have c.args.held.raw c.args.out.now _ _ c.requires.0 c.requires.1 c.to_be_bytes-bytes.ensures (rw c.from-n.ensures at c.copy_from_slice.ensures.after))
