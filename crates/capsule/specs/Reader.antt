-- What opening, feeding and closing do, for every state and all buffers.
use Rattle.refusals.specs.declared.Refusal.{Refusal}
use Rattle.capsule.specs.declared.reader.Ending.{Ending}
use Rattle.capsule.specs.declared.reader.Ending.TheVariants.{Clean, Truncated}
use Rattle.opening.specs.declared.Report.{Report}
use Rattle.capsule.specs.declared.reader.Advance.{Advance}
use Rattle.std.specs.Prelude.{ℕ, ◌-◌, Bool, true, false, cond, ◌&&◌, List, [], ◌++◌, length, take, drop, leb, eqb, Option, Some, None, Result, Ok, Err}
use Rattle.std.proofs.lemmas.List.Edits.{sets}
use Rattle.refusals.specs.Numbers.{unmakeable_state, finished, limit_too_large}
use Rattle.wire.specs.declared.partial.Partial.{Partial}
use Rattle.wire.specs.Partial.{held_bytes}
use Rattle.opening.specs.declared.Role.{Role}
use Rattle.opening.specs.declared.Opening.{Opening}
use Rattle.planning.specs.declared.Plan.{Plan}
use Rattle.planning.specs.declared.Phase.{Phase}
use Rattle.planning.specs.declared.Phase.TheVariants.{InType, InLength, InValue}
use Rattle.capsule.specs.declared.reader.Reader.{Reader}
use Rattle.capsule.specs.declared.reader.Closed.{Closed}
use Rattle.opening.specs.Kinds.{judged, only_delivered, length_of}
use Rattle.capsule.specs.Calls.{Lent, lent, Call, feed, close, Reply, refused, fed, closed, finishes_in}
use Rattle.opening.specs.Lent.{lent_verdict}
use Rattle.capsule.specs.Book.{only_if}
use Rattle.planning.specs.Plans.{held_of, no_bytes, is_makeable_phase, plan_of}

-- ---- opening

abbrev pub opening : Role → ℕ → Bool → Bool → Opening
opening role limit draft addresses = record { role = role; limit = limit; draft = draft; addresses = addresses }

abbrev pub fresh : Opening → Reader
fresh op = record { opening = op; phase = InType no_bytes; finished = false }

unfoldable pub is_opening : Opening → Bool
is_opening op = leb op.limit 65535

unfoldable pub open_of : Role → ℕ → Bool → Bool → Result Reader Refusal
open_of role limit draft addresses =
    cond (is_opening (opening role limit draft addresses)) (Ok (fresh (opening role limit draft addresses))) (Err limit_too_large)

-- ---- refusals 1, 2, 4, 18 and 5

unfoldable pub is_makeable : Reader → Bool
is_makeable r = is_opening r.opening && is_makeable_phase r.opening r.phase

unfoldable pub verdict_of : Reader → ℕ → ℕ → ℕ → ℕ → Result (Unit {0}) Refusal
verdict_of r piece gathering addresses output =
    cond (is_makeable r)
    (cond r.finished (Err finished) (lent_verdict r.opening piece gathering addresses output))
    (Err unmakeable_state)

-- ---- feeding

-- what goes to the output, and what becomes of the two buffers for values
unfoldable pub wrote : Bool → Partial → ℕ → List ℕ → List ℕ
wrote forward held consumed p = only_if forward (held_bytes held ++ take consumed p)

unfoldable pub stored : Bool → ℕ → ℕ → ℕ → List ℕ → List ℕ → List ℕ
stored store at consumed place p g = cond store (sets g place (take (consumed - at) (drop at p))) g

pub record Feeding : Type 0 where
  pub reader : Reader
  pub answer : Result Advance Refusal
  pub buffers : Lent

abbrev pub taking : ℕ → ℕ → Option Report → Advance
taking consumed written ended = record { consumed = consumed; written = written; ended = ended }

abbrev pub feeding : Reader → Result Advance Refusal → Lent → Feeding
feeding r a b = record { reader = r; answer = a; buffers = b }

-- an address capsule that ends is judged by what then stands at the front of the second buffer, whatever that is
unfoldable pub judged_in : Option Report → List ℕ → Option Report
judged_in None a = None
judged_in (Some r) a = Some (judged r (take (length_of r) a))

unfoldable pub fed_by : Opening → Partial → List ℕ → Lent → Plan → Feeding
fed_by op held p b plan =
    let w = wrote plan.forward held plan.consumed p in
    let g = stored plan.store plan.at plan.consumed plan.place p b.gathering in
    let a = stored plan.keep plan.at plan.consumed plan.place p b.addresses in
    let e = judged_in plan.ended a in
    feeding
    (record { opening = op; phase = plan.next; finished = finishes_in e })
    (Ok (taking plan.consumed (length w) e))
    (lent g a (sets b.output 0 w))

-- a feeding without its refusals
unfoldable pub take_of : Reader → List ℕ → Lent → Feeding
take_of r p b = fed_by r.opening (held_of r.phase) p b (plan_of r.opening p r.phase)

unfoldable pub feed_by : Reader → List ℕ → Lent → Result (Unit {0}) Refusal → Feeding
feed_by r p b (Err why) = feeding r (Err why) b
feed_by r p b (Ok u) = take_of r p b

unfoldable pub feed_of : Reader → List ℕ → Lent → Feeding
feed_of r p b = feed_by r p b (verdict_of r (length p) (length b.gathering) (length b.addresses) (length b.output))

-- ---- clean close

-- between capsules: not even a byte of a type has come
unfoldable pub end_at : Phase → Ending
end_at (InType part) = cond (eqb part.have 0) Clean Truncated
end_at (InLength t part) = Truncated
end_at (InValue t n left) = Truncated

abbrev pub closing : Reader → Result Ending Refusal → Closed
closing r a = record { reader = r; answer = a }

unfoldable pub close_of : Reader → Closed
close_of r =
    cond (is_makeable r)
    (cond r.finished
    (closing r (Err finished))
    (closing (record { opening = r.opening; phase = r.phase; finished = true }) (Ok (end_at r.phase))))
    (closing r (Err unmakeable_state))

-- ---- the calls of demand 3, on a reader

-- a delivered payload is what stands at the front of the gathering buffer, an address value what stands at the front of the second
unfoldable pub front_of : Option Report → List ℕ → List ℕ → List ℕ
front_of None g a = []
front_of (Some r) g a = only_delivered r (take (length_of r) g) (take (length_of r) a)

unfoldable pub feed_reply : Result Advance Refusal → Lent → Reply
feed_reply (Err r) b = refused r
feed_reply (Ok took) b = fed took.consumed took.written (take took.written b.output) took.ended (front_of took.ended b.gathering b.addresses)

unfoldable pub close_reply : Result Ending Refusal → Reply
close_reply (Err r) = refused r
close_reply (Ok e) = closed e

unfoldable pub reader_call : Reader → Call → Reader × Reply
reader_call r (feed p b) = let f = feed_of r p b in (f.reader, feed_reply f.answer f.buffers)
reader_call r close = let c = close_of r in (c.reader, close_reply c.answer)
