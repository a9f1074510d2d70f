-- `ends-within` keeps the length's start inside the piece.
use Rattle.walks.proofs.Words.{sym, ◌∙◌}
use Rattle.planning.proofs.{Planning.ends-within}
use Rattle.planning.proofs.reach_by_type.Goals as goal

pub reach_by_length-requires : goal.reach_by_length-requires
reach_by_length-requires c = ends-within _ _ _ _ (sym c.take.ensures ∙ c.in-Ends.is)
