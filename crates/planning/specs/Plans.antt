-- Where a stream is in its capsule, and what a feeding is to do, for every state and every piece.
use Rattle.std.specs.Prelude.{ℕ, ◌+◌, ◌-◌, Bool, false, cond, ◌&&◌, List, length, drop, leb, ltb, Some, None}
use Rattle.wire.specs.declared.partial.Partial.{Partial}
use Rattle.wire.specs.declared.partial.VarintTaken.TheVariants.{Impossible, More, Ends}
use Rattle.wire.specs.Varint.{largest}
use Rattle.wire.specs.Partial.{partial, is_partial, take_varint}
use Rattle.opening.specs.declared.Opening.{Opening}
use Rattle.planning.specs.declared.Plan.{Plan}
use Rattle.planning.specs.declared.Phase.{Phase}
use Rattle.planning.specs.declared.Phase.TheVariants.{InType, InLength, InValue}
use Rattle.opening.specs.Kinds.{extent_of, report_of, forwards, gathers, keeps}

abbrev pub no_bytes : Partial
no_bytes = partial 0 0

-- which states opening, feeding and closing make (the claim `MakeableExactly` of capsule_laws)
unfoldable pub is_makeable_phase : Opening → Phase → Bool
is_makeable_phase op (InType part) = is_partial part
is_makeable_phase op (InLength t part) = leb t largest && is_partial part
is_makeable_phase op (InValue t n left) = leb t largest && (leb n largest && (ltb 0 left && leb left (extent_of op t n)))

-- ---- what a feeding is to do

-- the value of a capsule is in the piece from `at` on, and `left` bytes of it are to come
unfoldable pub plan_value : Opening → List ℕ → ℕ → ℕ → ℕ → ℕ → Plan
plan_value op p at t n left =
    cond (leb left (length p - at))
    (record { next = InType no_bytes; consumed = at + left; ended = Some (report_of op t n); forward = forwards op t; store = gathers op t n; keep = keeps op t n; at = at; place = extent_of op t n - left })
    (record { next = InValue t n (left - (length p - at)); consumed = length p; ended = None; forward = forwards op t; store = gathers op t n; keep = keeps op t n; at = at; place = extent_of op t n - left })

-- the piece ends before the value
unfoldable pub plan_head : Phase → ℕ → Bool → Plan
plan_head next consumed forward =
    record { next = next; consumed = consumed; ended = None; forward = forward; store = false; keep = false; at = 0; place = 0 }

-- the length is in the piece from `at` on, after the part of it that came before
unfoldable pub plan_length : Opening → List ℕ → ℕ → ℕ → Partial → Plan
plan_length op p at t part = elim (take_varint part (drop at p)) [
  | Impossible ↦ plan_head (InLength t part) 0 false
  | More part' ↦ plan_head (InLength t part') (length p) (forwards op t)
  | Ends used n ↦ plan_value op p (at + used) t n (extent_of op t n)
]

unfoldable pub plan_type : Opening → List ℕ → Partial → Plan
plan_type op p part = elim (take_varint part p) [
  | Impossible ↦ plan_head (InType part) 0 false
  | More part' ↦ plan_head (InType part') (length p) false
  | Ends used t ↦ plan_length op p used t no_bytes
]

unfoldable pub plan_of : Opening → List ℕ → Phase → Plan
plan_of op p (InType part) = plan_type op p part
plan_of op p (InLength t part) = plan_length op p 0 t part
plan_of op p (InValue t n left) = plan_value op p 0 t n left

-- the bytes of a type that is not complete are held
unfoldable pub held_of : Phase → Partial
held_of (InType part) = part
held_of (InLength t part) = no_bytes
held_of (InValue t n left) = no_bytes
