-- The definitions that request 4 changed, as they stood before it (over the declared types of today), for the law that a reader that did not
-- opt in answers as before. What did not change is cited.
use Rattle.capsule.specs.declared.reader.Advance.{Advance}
use Rattle.refusals.specs.declared.Refusal.{Refusal}
use Rattle.capsule.specs.Reader.{taking}
use Rattle.std.specs.Prelude.{ℕ, suc, ◌+◌, ◌-◌, Bool, true, false, cond, ◌&&◌, ◌||◌, List, [], ◌∷◌, ◌++◌, length, take, drop, leb, ltb, eqb, Some, None, Result, Ok, Err}
use Rattle.std.specs.Prelude.{Option}
use Rattle.std.proofs.lemmas.List.Edits.{sets}
use Rattle.refusals.specs.Numbers.{unmakeable_state, finished, gathering_too_short}
use Rattle.wire.specs.declared.partial.Partial.{Partial}
use Rattle.wire.specs.declared.partial.VarintTaken.TheVariants.{Impossible, More, Ends}
use Rattle.wire.specs.Varint.{largest}
use Rattle.wire.specs.Partial.{is_partial, take_varint}
use Rattle.opening.specs.declared.Role.{Role}
use Rattle.opening.specs.declared.Role.TheVariants.{Endpoint, Intermediary}
use Rattle.opening.specs.declared.Kind.{Kind}
use Rattle.opening.specs.declared.Kind.TheVariants.{Datagram, Address, Unknown}
use Rattle.opening.specs.declared.Opening.{Opening}
use Rattle.opening.specs.declared.Report.{Report}
use Rattle.opening.specs.declared.Report.TheVariants.{Delivered, Dropped, Skipped, Passed, AddressDelivered, Malformed}
use Rattle.planning.specs.declared.Plan.{Plan}
use Rattle.planning.specs.declared.Phase.{Phase}
use Rattle.planning.specs.declared.Phase.TheVariants.{InType, InLength, InValue}
use Rattle.capsule.specs.declared.reader.Reader.{Reader}
use Rattle.capsule.specs.declared.reader.Closed.{Closed}
use Rattle.capsule.specs.Grammar as grammar
use Rattle.capsule.specs.Grammar.{Parts, parts}
use Rattle.capsule.specs.Calls.{Call, feed, close, Reply, refused, fed, closed}
use Rattle.opening.specs.Lent.{output_verdict}
use Rattle.capsule.specs.Book.{only_if, first_of, Taken, Book, end_of}
use Rattle.planning.specs.Plans.{no_bytes, plan_head, held_of}
use Rattle.capsule.specs.Reader.{is_opening, wrote, stored, end_at, closing, close_reply}

-- ---- kinds

unfoldable pub kind_of : Opening → ℕ → Kind
kind_of op t = cond (eqb t 0 || (op.draft && eqb t 0xff37a5)) Datagram Unknown

unfoldable pub report_by : Role → ℕ → Kind → ℕ → ℕ → Report
report_by role limit Datagram t n = cond (leb n limit) (Delivered n) (Dropped n)
report_by role limit Address t n = Dropped n
report_by Endpoint limit Unknown t n = Skipped t n
report_by Intermediary limit Unknown t n = Passed t n

unfoldable pub report_of : Opening → ℕ → ℕ → Report
report_of op t n = report_by op.role op.limit (kind_of op t) t n

unfoldable pub forwards_by : Role → Kind → Bool
forwards_by Endpoint k = false
forwards_by Intermediary Datagram = false
forwards_by Intermediary Address = false
forwards_by Intermediary Unknown = true

unfoldable pub forwards : Opening → ℕ → Bool
forwards op t = forwards_by op.role (kind_of op t)

unfoldable pub gathers_by : Kind → ℕ → ℕ → Bool
gathers_by Datagram limit n = leb n limit
gathers_by Address limit n = false
gathers_by Unknown limit n = false

unfoldable pub gathers : Opening → ℕ → ℕ → Bool
gathers op t n = gathers_by (kind_of op t) op.limit n

unfoldable pub only_delivered : Report → List ℕ → List ℕ
only_delivered (Delivered n) value = value
only_delivered (Dropped n) value = []
only_delivered (Skipped t n) value = []
only_delivered (Passed t n) value = []
only_delivered (AddressDelivered t n) value = []
only_delivered (Malformed t n) value = []

-- ---- refusals

unfoldable pub lent_verdict : Opening → ℕ → ℕ → ℕ → Result (Unit {0}) Refusal
lent_verdict op piece gathering output =
    cond (leb op.limit gathering) (output_verdict op.role piece output) (Err gathering_too_short)

unfoldable pub is_makeable_phase : Phase → Bool
is_makeable_phase (InType part) = is_partial part
is_makeable_phase (InLength t part) = leb t largest && is_partial part
is_makeable_phase (InValue t n left) = leb t largest && (leb n largest && (ltb 0 left && leb left n))

unfoldable pub is_makeable : Reader → Bool
is_makeable r = is_opening r.opening && is_makeable_phase r.phase

unfoldable pub verdict_of : Reader → ℕ → ℕ → ℕ → Result (Unit {0}) Refusal
verdict_of r piece gathering output =
    cond (is_makeable r)
    (cond r.finished (Err finished) (lent_verdict r.opening piece gathering output))
    (Err unmakeable_state)

-- ---- feeding

unfoldable pub plan_value : Opening → List ℕ → ℕ → ℕ → ℕ → ℕ → Plan
plan_value op p at t n left =
    cond (leb left (length p - at))
    (record { next = InType no_bytes; consumed = at + left; ended = Some (report_of op t n); forward = forwards op t; store = gathers op t n; keep = false; at = at; place = n - left })
    (record { next = InValue t n (left - (length p - at)); consumed = length p; ended = None; forward = forwards op t; store = gathers op t n; keep = false; at = at; place = n - left })

unfoldable pub plan_length : Opening → List ℕ → ℕ → ℕ → Partial → Plan
plan_length op p at t part = elim (take_varint part (drop at p)) [
  | Impossible ↦ plan_head (InLength t part) 0 false
  | More part' ↦ plan_head (InLength t part') (length p) (forwards op t)
  | Ends used n ↦ plan_value op p (at + used) t n n
]

unfoldable pub plan_type : Opening → List ℕ → Partial → Plan
plan_type op p part = elim (take_varint part p) [
  | Impossible ↦ plan_head (InType part) 0 false
  | More part' ↦ plan_head (InType part') (length p) false
  | Ends used t ↦ plan_length op p used t no_bytes
]

unfoldable pub plan_of : Opening → List ℕ → Phase → Plan
plan_of op p (InType part) = plan_type op p part
plan_of op p (InLength t part) = plan_length op p 0 t part
plan_of op p (InValue t n left) = plan_value op p 0 t n left

pub record Feeding : Type 0 where
  pub reader : Reader
  pub answer : Result Advance Refusal
  pub gathering : List ℕ
  pub output : List ℕ

abbrev pub feeding : Reader → Result Advance Refusal → List ℕ → List ℕ → Feeding
feeding r a g o = record { reader = r; answer = a; gathering = g; output = o }

unfoldable pub fed_by : Opening → Partial → List ℕ → List ℕ → List ℕ → Plan → Feeding
fed_by op held p g o plan =
    let w = wrote plan.forward held plan.consumed p in
    feeding
    (record { opening = op; phase = plan.next; finished = false })
    (Ok (taking plan.consumed (length w) plan.ended))
    (stored plan.store plan.at plan.consumed plan.place p g)
    (sets o 0 w)

unfoldable pub take_of : Reader → List ℕ → List ℕ → List ℕ → Feeding
take_of r p g o = fed_by r.opening (held_of r.phase) p g o (plan_of r.opening p r.phase)

unfoldable pub feed_by : Reader → List ℕ → List ℕ → List ℕ → Result (Unit {0}) Refusal → Feeding
feed_by r p g o (Err why) = feeding r (Err why) g o
feed_by r p g o (Ok tt) = take_of r p g o

unfoldable pub feed_of : Reader → List ℕ → List ℕ → List ℕ → Feeding
feed_of r p g o = feed_by r p g o (verdict_of r (length p) (length g) (length o))

unfoldable pub close_of : Reader → Closed
close_of r =
    cond (is_makeable r)
    (cond r.finished
    (closing r (Err finished))
    (closing (record { opening = r.opening; phase = r.phase; finished = true }) (Ok (end_at r.phase))))
    (closing r (Err unmakeable_state))

-- ---- the book

unfoldable pub from_capsules : Opening → List grammar.Capsule → List ℕ
from_capsules op [] = []
from_capsules op (c ∷ cs) = only_if (forwards op c.ctype) c.bytes ++ from_capsules op cs

unfoldable pub from_tail : Opening → List ℕ → grammar.Stage → List ℕ
from_tail op r grammar.in_type = []
from_tail op r (grammar.in_length t head) = only_if (forwards op t) r
from_tail op r (grammar.in_value t n head) = only_if (forwards op t) r

unfoldable pub from_parts : Opening → Parts → List ℕ
from_parts op p = from_capsules op p.capsules ++ from_tail op p.tail p.stage

unfoldable pub forwarded : Opening → List ℕ → List ℕ
forwarded op s = from_parts op (parts s)

unfoldable pub completes : List ℕ → ℕ → Option grammar.Capsule
completes s b = first_of (drop (length (parts s).capsules) (parts (s ++ (b ∷ []))).capsules)

unfoldable pub append : List ℕ → List ℕ → Taken
append s [] = record { stream = s; consumed = 0; capsule = None }
append s (b ∷ p) =
    let rest = append (s ++ (b ∷ [])) p in
    elim (completes s b) [
      | None ↦ record { stream = rest.stream; consumed = suc rest.consumed; capsule = rest.capsule }
      | Some c ↦ record { stream = s ++ (b ∷ []); consumed = 1; capsule = Some c }
    ]

unfoldable pub reported : Opening → grammar.Capsule → Report
reported op c = report_of op c.ctype (length c.value)

unfoldable pub ended_by : Opening → Option grammar.Capsule → Option Report
ended_by op None = None
ended_by op (Some c) = Some (reported op c)

unfoldable pub payload_by : Opening → Option grammar.Capsule → List ℕ
payload_by op None = []
payload_by op (Some c) = only_delivered (reported op c) c.value

unfoldable pub book_verdict : Book → List ℕ → List ℕ → List ℕ → Result (Unit {0}) Refusal
book_verdict k piece g o =
    cond k.mark (Err finished) (lent_verdict k.opening (length piece) (length g) (length o))

unfoldable pub gained : Opening → List ℕ → List ℕ → List ℕ
gained op before after = drop (length (forwarded op before)) (forwarded op after)

unfoldable pub book_feed : Book → List ℕ → Result (Unit {0}) Refusal → Book × Reply
book_feed k piece (Err r) = (k, refused r)
book_feed k piece (Ok tt) =
    let t = append k.stream piece in
    let w = gained k.opening k.stream t.stream in (
      record { opening = k.opening; stream = t.stream; mark = k.mark },
      fed t.consumed (length w) w (ended_by k.opening t.capsule) (payload_by k.opening t.capsule),
    )

unfoldable pub book_close : Book → Bool → Book × Reply
book_close k true = (k, refused finished)
book_close k false = (record { opening = k.opening; stream = k.stream; mark = true }, closed (end_of (parts k.stream).tail))

-- a call's second buffer is not looked at
unfoldable pub book_call : Book → Call → Book × Reply
book_call k (feed piece b) = book_feed k piece (book_verdict k piece b.gathering b.output)
book_call k close = book_close k k.mark

-- ---- the calls of demand 3, on a reader

unfoldable pub length_of : Report → ℕ
length_of (Delivered n) = n
length_of (Dropped n) = n
length_of (Skipped t n) = n
length_of (Passed t n) = n
length_of (AddressDelivered t n) = n
length_of (Malformed t n) = n

unfoldable pub front_of : Option Report → List ℕ → List ℕ
front_of None g = []
front_of (Some r) g = only_delivered r (take (length_of r) g)

unfoldable pub feed_reply : Result Advance Refusal → List ℕ → List ℕ → Reply
feed_reply (Err r) g o = refused r
feed_reply (Ok took) g o = fed took.consumed took.written (take took.written o) took.ended (front_of took.ended g)

unfoldable pub reader_call : Reader → Call → Reader × Reply
reader_call r (feed p b) =
    let f = feed_of r p b.gathering b.output in
    (f.reader, feed_reply f.answer f.gathering f.output)
reader_call r close = let c = close_of r in (c.reader, close_reply c.answer)
