-- How many bytes a feeding consumed.
use Rattle.refusals.specs.declared.Refusal.{Refusal}
use Rattle.capsule.specs.declared.reader.Advance.{Advance}
use Rattle.std.specs.Prelude.{ℕ, Result, Ok, Err}

unfoldable pub consumed_in : Result Advance Refusal → ℕ
consumed_in (Err why) = 0
consumed_in (Ok took) = took.consumed
