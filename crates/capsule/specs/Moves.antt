-- What forwarding does to the output: a contract inside the crate.
use Rattle.std.specs.Prelude.{ℕ, ◌≡◌, List, length}
use Rattle.std.proofs.lemmas.List.Edits.{sets}

-- the bytes w stand at the output's start, and their number is the answer
pub record Wrote (w out : List ℕ) (count : ℕ) (after : List ℕ) : Type 0 where
  pub counted : count ≡ length w
  pub placed : after ≡ sets out 0 w
