-- What a piece comes to before the value: a contract inside the crate.
use Rattle.std.specs.Prelude.{ℕ, ◌≤◌, ◌≡◌, List, length}
use Rattle.opening.specs.declared.Opening.{Opening}
use Rattle.planning.specs.declared.Plan.{Plan}
use Rattle.planning.specs.declared.Reached.{Reached}
use Rattle.planning.specs.declared.Reached.TheVariants.{Stops, Value}
use Rattle.planning.specs.Plans.{plan_value}

unfoldable pub plan_by : Opening → List ℕ → Reached → Plan
plan_by op p (Stops plan) = plan
plan_by op p (Value at t n left) = plan_value op p at t n left

-- a value starts within the piece
unfoldable pub Within : Opening → List ℕ → Reached → Type 0
Within op p (Stops plan) = Unit {0}
Within op p (Value at t n left) = at ≤ length p

pub record Reaches (op : Opening) (p : List ℕ) (r : Reached) (plan : Plan) : Type 0 where
  pub plans : plan_by op p r ≡ plan
  pub within : Within op p r
