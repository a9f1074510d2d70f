-- What `fill` and `spill` ensure, one put into the other.
use Rattle.walks.proofs.Words.{ℕ, ◌+◌, ap, ◌∙◌, take, drop, List, ◌++◌}
use Rattle.copying.proofs.once.Goals as goal

pub returns : goal.returns
returns c =
    c.spill.ensures ∙ ap (λ (q : List ℕ). take c.args.to c.args.dst.now ++ q ++ drop (c.args.to + c.args.n) c.args.dst.now) c.fill.ensures.block_after
