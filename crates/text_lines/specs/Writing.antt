-- Writing a line at a place of an output that the caller names.
use Rattle.std.specs.Prelude.{ℕ, ◌+◌, cond, List, length, leb, Option, Some, None}
use Rattle.std.proofs.lemmas.List.Edits.{sets}

-- the answer, and the whole output afterwards
pub record Writing : Type 0 where
  pub answer : Option ℕ
  pub output : List ℕ

abbrev pub writing : Option ℕ → List ℕ → Writing
writing r out = record { answer = r; output = out }

-- the line goes to the place and after it, no other byte changes, and the answer is its length
unfoldable pub write_at : List ℕ → List ℕ → ℕ → Writing
write_at line out place =
    cond (leb (place + length line) (length out)) (writing (Some (length line)) (sets out place line)) (writing None out)
