-- A run of bytes copied from one buffer to another.
use Rattle.std.specs.Prelude.{ℕ, ◌+◌, Bool, true, false, cond, ◌&&◌, List, length, take, drop, leb}
use Rattle.std.proofs.lemmas.List.Edits.{sets}

pub record Copying : Type 0 where
  pub done : Bool
  pub buffer : List ℕ

abbrev pub copying : Bool → List ℕ → Copying
copying done buffer = record { done = done; buffer = buffer }

-- both lists have the run
unfoldable pub both_have : List ℕ → ℕ → List ℕ → ℕ → ℕ → Bool
both_have src from dst to n = leb (from + n) (length src) && leb (to + n) (length dst)

unfoldable pub copy : List ℕ → ℕ → List ℕ → ℕ → ℕ → Copying
copy src from dst to n =
    cond (both_have src from dst to n) (copying true (sets dst to (take n (drop from src)))) (copying false dst)
