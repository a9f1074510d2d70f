-- Writing at a place of an output that the caller names (document 01, "Writers, settings, messages").
use Rattle.std.specs.Prelude.{ℕ, ◌+◌, cond, List, length, leb, Result, Ok, Err}
use Rattle.std.proofs.lemmas.List.Edits.{sets}
use Rattle.refusals.specs.declared.Refusal.{Refusal}
use Rattle.refusals.specs.Numbers.{output_too_short, number_too_large}
use Rattle.wire.specs.Varint.{largest, encode}

-- the answer, and the whole output afterwards
pub record Writing : Type 0 where
  pub answer : Result ℕ Refusal
  pub output : List ℕ

abbrev pub writing : Result ℕ Refusal → List ℕ → Writing
writing r out = record { answer = r; output = out }

unfoldable pub refuses : Refusal → List ℕ → Writing
refuses r out = writing (Err r) out

-- the bytes go to the place and after it, no other byte changes, and the answer is their number
unfoldable pub write_at : List ℕ → List ℕ → ℕ → Writing
write_at bytes out place =
    cond (leb (place + length bytes) (length out))
    (writing (Ok (length bytes)) (sets out place bytes))
    (refuses output_too_short out)

unfoldable pub write_varint : ℕ → List ℕ → ℕ → Writing
write_varint n out place = cond (leb n largest) (write_at (encode n) out place) (refuses number_too_large out)
