-- Calls on an open reader, and what is compared of their answers (demand 3).
use Rattle.capsule.specs.declared.reader.Ending.{Ending}
use Rattle.opening.specs.declared.Report.{Report}
use Rattle.std.specs.Prelude.{ℕ, false, Bool, List, [], ◌∷◌, Option, Some, None}
use Rattle.refusals.specs.declared.Refusal.{Refusal}
use Rattle.opening.specs.Kinds.{finishes}

-- the buffers that a feeding is lent: the second one is for address capsules
pub record Lent : Type 0 where
  pub gathering : List ℕ
  pub addresses : List ℕ
  pub output : List ℕ

abbrev pub lent : List ℕ → List ℕ → List ℕ → Lent
lent g a o = record { gathering = g; addresses = a; output = o }

pub data Call : Type 0 where
  feed : (piece : List ℕ) (buffers : Lent) → Call
  close : Call

-- an answer: a refusal; the consumed and written counts, the bytes written, what ended and the delivered payload or address value as it
-- stands at its report; or how a clean close found the stream
pub data Reply : Type 0 where
  refused : Refusal → Reply
  fed : (consumed written : ℕ) (wrote : List ℕ) (ended : Option Report) (payload : List ℕ) → Reply
  closed : Ending → Reply

-- whether nothing may follow what ended
unfoldable pub finishes_in : Option Report → Bool
finishes_in None = false
finishes_in (Some r) = finishes r

-- a list of calls, one after another, on anything that answers calls
unfoldable pub run : {S : Type 0} → (S → Call → S × Reply) → S → List Call → S × List Reply
run call s [] = (s, [])
run call s (c ∷ cs) =
    let x = call s c in
    let y = run call x.0 cs in
    (y.0, x.1 ∷ y.1)
