-- `first_reached`: a short header plans what the general path plans.
use Rattle.walks.proofs.Words.{sym, ◌∙◌}
use Rattle.planning.proofs.Reaching.{first_reached}
use Rattle.planning.proofs.reach_in_type.Goals as goal

pub returns-in-Some : goal.returns-in-Some
returns-in-Some c = rw c.extent.ensures (first_reached _ _ _ (c.type_inv.piece 2).fits _ _ _ (sym c.first_header.ensures ∙ c.in-Some.is))
