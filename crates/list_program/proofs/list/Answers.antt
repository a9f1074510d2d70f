-- The opening that is asked for is `Ready`: `opened_ready` of Feedings.
use Rattle.walks.proofs.Words.{arith, sym, ◌∙◌}
use Rattle.list_program.proofs.Feedings.{opened_ready}
use Rattle.list_program.proofs.list.Goals as goal

pub list_all-requires : goal.list_all-requires
list_all-requires g c = opened_ready _ _ _ _ (omega arith) (sym c.open.ensures ∙ c.in-Ok.is)
