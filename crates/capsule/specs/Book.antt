-- Demand 3's book (document 01's term): it holds the opening, the stream and a finished mark, reads the stream by the grammar, and never sees a reader.
use Rattle.refusals.specs.declared.Refusal.{Refusal}
use Rattle.capsule.specs.declared.reader.Ending.{Ending}
use Rattle.capsule.specs.declared.reader.Ending.TheVariants.{Clean, Truncated}
use Rattle.std.specs.Prelude.{ℕ, suc, Bool, true, false, cond, ◌||◌, List, [], ◌∷◌, ◌++◌, length, drop, Some, None, Result, Ok, Err}
use Rattle.std.specs.Prelude.{Option}
use Rattle.refusals.specs.Numbers.{finished}
use Rattle.opening.specs.declared.Opening.{Opening}
use Rattle.opening.specs.declared.Report.{Report}
use Rattle.capsule.specs.Grammar as grammar
use Rattle.capsule.specs.Grammar.{Stage, in_type, in_length, in_value, Parts, parts_by}
use Rattle.opening.specs.Kinds.{extent_of, report_of, judged, only_delivered, forwards}
use Rattle.capsule.specs.Calls.{Lent, Call, feed, close, Reply, refused, fed, closed, finishes_in}
use Rattle.opening.specs.Lent.{lent_verdict}

-- ---- the stream, as the opening has it read: the ONE place where it is asked what is complete

unfoldable pub parts_for : Opening → List ℕ → Parts
parts_for op s = parts_by (extent_of op) s

-- ---- forwarded bytes

unfoldable pub only_if : Bool → List ℕ → List ℕ
only_if true s = s
only_if false s = []

unfoldable pub from_capsules : Opening → List grammar.Capsule → List ℕ
from_capsules op [] = []
from_capsules op (c ∷ cs) = only_if (forwards op c.ctype) c.bytes ++ from_capsules op cs

-- of the tail: all of it, once its type is complete
unfoldable pub from_tail : Opening → List ℕ → Stage → List ℕ
from_tail op r in_type = []
from_tail op r (in_length t head) = only_if (forwards op t) r
from_tail op r (in_value t n head) = only_if (forwards op t) r

unfoldable pub from_parts : Opening → Parts → List ℕ
from_parts op p = from_capsules op p.capsules ++ from_tail op p.tail p.stage

unfoldable pub forwarded : Opening → List ℕ → List ℕ
forwarded op s = from_parts op (parts_for op s)

-- ---- feeding

unfoldable pub first_of : List grammar.Capsule → Option grammar.Capsule
first_of [] = None
first_of (c ∷ cs) = Some c

-- the capsule that the byte b completes behind s, if it completes one
unfoldable pub completes : Opening → List ℕ → ℕ → Option grammar.Capsule
completes op s b = first_of (drop (length (parts_for op s).capsules) (parts_for op (s ++ (b ∷ []))).capsules)

pub record Taken : Type 0 where
  pub stream : List ℕ
  pub consumed : ℕ
  pub capsule : Option grammar.Capsule

-- a piece's bytes are appended one by one, up to one that completes a capsule
unfoldable pub append : Opening → List ℕ → List ℕ → Taken
append op s [] = record { stream = s; consumed = 0; capsule = None }
append op s (b ∷ p) =
    let rest = append op (s ++ (b ∷ [])) p in
    elim (completes op s b) [
      | None ↦ record { stream = rest.stream; consumed = suc rest.consumed; capsule = rest.capsule }
      | Some c ↦ record { stream = s ++ (b ∷ []); consumed = 1; capsule = Some c }
    ]

unfoldable pub reported : Opening → grammar.Capsule → Report
reported op c = judged (report_of op c.ctype c.size) c.value

unfoldable pub ended_by : Opening → Option grammar.Capsule → Option Report
ended_by op None = None
ended_by op (Some c) = Some (reported op c)

-- a delivered payload, and a delivered address value, is the capsule's value
unfoldable pub payload_by : Opening → Option grammar.Capsule → List ℕ
payload_by op None = []
payload_by op (Some c) = only_delivered (reported op c) c.value c.value

-- ---- the book

pub record Book : Type 0 where
  pub opening : Opening
  pub stream : List ℕ
  pub mark : Bool

unfoldable pub new_book : Opening → Book
new_book op = record { opening = op; stream = []; mark = false }

unfoldable pub book_verdict : Book → List ℕ → Lent → Result (Unit {0}) Refusal
book_verdict k piece buffers =
    cond k.mark (Err finished) (lent_verdict k.opening (length piece) (length buffers.gathering) (length buffers.addresses) (length buffers.output))

-- what feeding adds to the forwarded bytes is written
unfoldable pub gained : Opening → List ℕ → List ℕ → List ℕ
gained op before after = drop (length (forwarded op before)) (forwarded op after)

-- a malformed capsule sets the mark
unfoldable pub book_feed : Book → List ℕ → Result (Unit {0}) Refusal → Book × Reply
book_feed k piece (Err r) = (k, refused r)
book_feed k piece (Ok u) =
    let t = append k.opening k.stream piece in
    let e = ended_by k.opening t.capsule in
    let w = gained k.opening k.stream t.stream in (
      record { opening = k.opening; stream = t.stream; mark = k.mark || finishes_in e },
      fed t.consumed (length w) w e (payload_by k.opening t.capsule),
    )

-- a clean close answers clean if the tail is empty
unfoldable pub end_of : List ℕ → Ending
end_of [] = Clean
end_of (b ∷ r) = Truncated

unfoldable pub book_close : Book → Bool → Book × Reply
book_close k true = (k, refused finished)
book_close k false = (record { opening = k.opening; stream = k.stream; mark = true }, closed (end_of (parts_for k.opening k.stream).tail))

unfoldable pub book_call : Book → Call → Book × Reply
book_call k (feed piece buffers) = book_feed k piece (book_verdict k piece buffers)
book_call k close = book_close k k.mark
