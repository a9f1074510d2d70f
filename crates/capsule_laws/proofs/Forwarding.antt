-- What a feeding adds to the forwarded bytes. Assumes nothing.
use Rattle.std.specs.Prelude.{Some, None}
use Rattle.short_forms.specs.Short.{varint_of}
use Rattle.walks.proofs.Words.{◌≡◌, refl, sym, ap, ◌∙◌, subst, ℕ, ◌+◌, ◌-◌, ◌<◌, arith, Bool, true, false, List, [], ◌∷◌, ◌++◌, append_assoc, append-nil, length, take, drop, take-length, take-append-add}
use Rattle.capsule_laws.proofs.Terms.{whole_same, Bytes, bytes_of, read_varint, held_bytes, reads, whole_incomplete, held_partial, Opening, Extent, Stage, in_type, in_length, in_value, Front, part, whole, front_by, Capsule, capsule_at, Parts, extent_of, forwards, parts_for, only_if, from_capsules, from_tail, from_parts, forwarded, phase_at, plan_head, held_of, wrote, ForwardedGrows}
use Rattle.capsule_laws.proofs.{Grammar.Sees, Grammar.sees_type, Grammar.sees_length, Grammar.sees_value, Grammar.sees_whole, Grammar.part_none, Appending.one, Appending.Shows, Appending.shows, Appending.for_append, Appending.for_part, Appending.for_next, Appending.tail_shows, Appending.for_bytes, Appending.parts_goes, Appending.parts-ends, Plans.plan_at}

-- ---- lists

pub only_if-append : (b : Bool) (s t : List ℕ) → only_if b (s ++ t) ≡ only_if b s ++ only_if b t
unfolding only_if
only_if-append true s t = refl
only_if-append false s t = refl

from_capsules-append : (op : Opening) (cs ds : List Capsule) → from_capsules op (cs ++ ds) ≡ from_capsules op cs ++ from_capsules op ds
unfolding from_capsules
from_capsules-append op [] ds = refl
from_capsules-append op (c ∷ cs) ds = rw (from_capsules-append op cs ds, append_assoc)

from_capsules-one : (op : Opening) (t n j : ℕ) (l : List ℕ) → from_capsules op (one t n j l ∷ []) ≡ only_if (forwards op t) l
unfolding from_capsules
from_capsules-one op t n j l = append-nil (only_if (forwards op t) l)

-- ---- a type that is complete stays

-- the stage has no complete type, or the type t
pub data Typed (t : ℕ) : Stage → Type 0 where
  none : Typed t in_type
  before : {j : ℕ} → Typed t (in_length t j)
  within : {n j : ℕ} → Typed t (in_value t n j)

pub typed : {ext : Extent} (r p : List ℕ) (x : Stage) (t j : ℕ) → Sees ext r (part x) → read_varint (r ++ p) ≡ Some (varint_of t j) → Typed t x
typed r p x t j (sees_type e) d = none
typed r p x t j (sees_length {t = u} {j = i} e f) d =
    let a = (reads r u i e).stays p in
    let b : u ≡ t = (whole_same (sym a ∙ d)).0 in
    subst (λ (y : ℕ). Typed t (in_length y i)) (sym b) before
typed r p x t j (sees_value {t = u} {j = i} {n = n} {k = k} e f h) d =
    let a = (reads r u i e).stays p in
    let b : u ≡ t = (whole_same (sym a ∙ d)).0 in
    subst (λ (y : ℕ). Typed t (in_value y n (i + k))) (sym b) within

-- the type that a front shows
pub typed_front : {ext : Extent} (r p : List ℕ) (x : Stage) (t n j : ℕ) → Sees ext r (part x) → Sees ext (r ++ p) (whole t n j) → Typed t x
typed_front r p x t n j v (sees_whole {j = i} e d h) = typed r p x t i v e

-- while no type is complete nothing is forwarded of the tail
nothing_yet : (op : Opening) (r p : List ℕ) (x : Stage) → Shows op r (part x) → read_varint (r ++ p) ≡ None → from_tail op r x ≡ []
unfolding from_tail
nothing_yet op r p x (sees_type e) d = refl
nothing_yet op r p x (sees_length {t = t} {j = j} e f) d = whole_incomplete ((reads r t j e).stays p) d
nothing_yet op r p x (sees_value {t = t} {j = j} e f h) d = whole_incomplete ((reads r t j e).stays p) d

module _ (op : Opening) (r q : List ℕ) (t : ℕ) where
  -- bytes that go on behind the tail r: what of them and of the held ones is written
  pub wrote-tail : (x : Stage) → Typed t x → Bytes r
      → only_if (forwards op t) (r ++ q) ≡ from_tail op r x ++ only_if (forwards op t) (held_bytes (held_of (phase_at op r x)) ++ q)
  unfolding from_tail held_of phase_at
  wrote-tail x none w = ap (λ (h : List ℕ). only_if (forwards op t) (h ++ q)) (sym (held_partial r w))
  wrote-tail x before w = unfold held_bytes bytes_of in only_if-append (forwards op t) r q
  wrote-tail x within w = unfold held_bytes bytes_of in only_if-append (forwards op t) r q

-- ---- feeding

module _ (op : Opening) (s : List ℕ) where
  abbrev r : List ℕ
  r = (parts_for op s).tail

  abbrev x : Stage
  x = (parts_for op s).stage

  forwarded-is : (q : List ℕ) (ps : Parts) → parts_for op (s ++ q) ≡ ps → forwarded op (s ++ q) ≡ from_capsules op ps.capsules ++ from_tail op ps.tail ps.stage
  unfolding forwarded from_parts
  forwarded-is q ps e = rw e

  module _ (w : Bytes s) (q : List ℕ) where
    all : take (length q) q ≡ q
    all = take-length q

    goes_typed : (y : Stage) (t : ℕ) → parts_for op (s ++ q) ≡ record { capsules = (parts_for op s).capsules; tail = r ++ q; stage = y }
        → from_tail op (r ++ q) y ≡ only_if (forwards op t) (r ++ q) → Typed t x
        → forwarded op (s ++ q) ≡ forwarded op s ++ wrote (forwards op t) (held_of (phase_at op r x)) (length q) q
    unfolding forwarded from_parts wrote
    goes_typed y t e f d =
        forwarded-is q (record { capsules = (parts_for op s).capsules; tail = r ++ q; stage = y }) e
        ∙ ap (λ (l : List ℕ). from_capsules op (parts_for op s).capsules ++ l) (f ∙ wrote-tail op r q t x d (for_bytes op s w))
        ∙ sym (append_assoc (from_capsules op (parts_for op s).capsules) (from_tail op r x) _)
        ∙ ap (λ (l : List ℕ). (from_capsules op (parts_for op s).capsules ++ from_tail op r x) ++ only_if (forwards op t) (held_bytes (held_of (phase_at op r x)) ++ l)) (sym all)

    goes_untyped : read_varint (r ++ q) ≡ None → forwarded op (s ++ q) ≡ forwarded op s ++ wrote false (held_of (phase_at op r x)) (length q) q
    unfolding forwarded from_parts wrote only_if from_tail
    goes_untyped e =
        let n : from_tail op r x ≡ [] = nothing_yet op r q x (tail_shows op s) e in
        forwarded-is q (record { capsules = (parts_for op s).capsules; tail = r ++ q; stage = in_type }) (parts_goes op s q in_type (sees_type e))
        ∙ sym (append-nil (from_capsules op (parts_for op s).capsules ++ []))
        ∙ ap (λ (l : List ℕ). (from_capsules op (parts_for op s).capsules ++ l) ++ []) (sym n)

    -- no capsule ends
    pub forwarded_goes : (y : Stage) → Shows op (r ++ q) (part y)
        → forwarded op (s ++ q) ≡ forwarded op s ++ wrote (plan_at op r q (part y)).forward (held_of (phase_at op r x)) (length q) q
    unfolding plan_at plan_head
    forwarded_goes y (sees_type e) = goes_untyped e
    forwarded_goes y (sees_length {t = t} {j = j} e d) = goes_typed y t (parts_goes op s q y (sees_length e d)) (unfold from_tail in refl) (typed r q x t j (tail_shows op s) e)
    forwarded_goes y (sees_value {t = t} {j = j} e d h) = goes_typed y t (parts_goes op s q y (sees_value e d h)) (unfold from_tail in refl) (typed r q x t j (tail_shows op s) e)

    -- its last byte ends a capsule
    pub forwarded-ends : (t n j : ℕ) → Shows op (r ++ q) (whole t n j) → j + extent_of op t n ≡ length (r ++ q)
        → forwarded op (s ++ q) ≡ forwarded op s ++ wrote (forwards op t) (held_of (phase_at op r x)) (length q) q
    unfolding forwarded from_parts wrote from_tail
    forwarded-ends t n j v e =
        let cs = from_capsules op (parts_for op s).capsules in
        forwarded-is q (record { capsules = (parts_for op s).capsules ++ (one t n j (r ++ q) ∷ []); tail = []; stage = in_type }) (parts-ends op s q t n j v e)
        ∙ append-nil (from_capsules op ((parts_for op s).capsules ++ (one t n j (r ++ q) ∷ [])))
        ∙ from_capsules-append op (parts_for op s).capsules (one t n j (r ++ q) ∷ [])
        ∙ ap (λ (l : List ℕ). cs ++ l) (from_capsules-one op t n j (r ++ q) ∙ wrote-tail op r q t x (typed_front r q x t n j (tail_shows op s) v) (for_bytes op s w))
        ∙ sym (append_assoc cs (from_tail op r x) (only_if (forwards op t) (held_bytes (held_of (phase_at op r x)) ++ q)))
        ∙ ap (λ (l : List ℕ). (cs ++ from_tail op r x) ++ only_if (forwards op t) (held_bytes (held_of (phase_at op r x)) ++ l)) (sym all)

-- ---- forwarded bytes are never taken back

-- the first capsule of a list that goes on from the tail r, where r's type is forwarded
module _ (op : Opening) (r y : List ℕ) (t : ℕ) (f : forwards op t ≡ true) where
  Grown : Type 0
  Grown = (w : List ℕ) × (forwarded op (r ++ y) ≡ r ++ w)

  tail-grown : (z : Stage) → Shows op (r ++ y) (part z) → from_tail op (r ++ y) z ≡ r ++ y → Grown
  unfolding Grown forwarded from_parts from_capsules
  tail-grown z v e = (y, rw (for_part op (r ++ y) z v) e)

  capsule_typed : (n j : ℕ) → Shows op (r ++ y) (whole t n j) → length r < j + extent_of op t n → Grown
  unfolding Grown forwarded from_parts from_capsules capsule_at only_if
  capsule_typed n j v h =
      let m : j + extent_of op t n ≡ length r + (j + extent_of op t n - length r) = omega arith in
      let b : take (j + extent_of op t n) (r ++ y) ≡ r ++ take (j + extent_of op t n - length r) y = ap (λ (k : ℕ). take k (r ++ y)) m ∙ take-append-add r y (j + extent_of op t n - length r) in
      let rest = from_capsules op (parts_for op (drop (j + extent_of op t n) (r ++ y))).capsules ++ from_tail op (parts_for op (drop (j + extent_of op t n) (r ++ y))).tail (parts_for op (drop (j + extent_of op t n) (r ++ y))).stage in
      (take (j + extent_of op t n - length r) y ++ rest, rw (for_next op (r ++ y) t n j v, f, only_if, b, append_assoc, append_assoc))

  -- whatever stands at the front is of the same type
  shown : (j : ℕ) (x : Stage) → Shows op r (part x) → read_varint (r ++ y) ≡ Some (varint_of t j) → (z : Front) → Shows op (r ++ y) z → Grown
  unfolding from_tail only_if
  shown j x v e z (sees_type d) = whole_incomplete e d
  shown j x v e z (sees_length {t = u} {j = i} d g) =
      let a : u ≡ t = (whole_same (sym d ∙ e)).0 in
      tail-grown (in_length u i) (sees_length d g) (rw (a, f, only_if))
  shown j x v e z (sees_value {t = u} {j = i} {n = n} {k = k} d g h) =
      let a : u ≡ t = (whole_same (sym d ∙ e)).0 in
      tail-grown (in_value u n (i + k)) (sees_value d g h) (rw (a, f, only_if))
  shown j x v e z (sees_whole {t = u} {j = i} {n = n} {k = k} d g h) =
      let a : u ≡ t = (whole_same (sym d ∙ e)).0 in
      let w : Shows op (r ++ y) (whole t n (i + k)) = subst (λ (b : ℕ). Shows op (r ++ y) (whole b n (i + k))) a (sees_whole d g h) in
      capsule_typed n (i + k) w (part_none r x y t n (i + k) v w)

typed_grows : (op : Opening) (r y : List ℕ) (t j : ℕ) (x : Stage) → Shows op r (part x) → read_varint (r ++ y) ≡ Some (varint_of t j)
    → (w : List ℕ) × (forwarded op (r ++ y) ≡ only_if (forwards op t) r ++ w)
unfolding only_if Grown
typed_grows op r y t j x v e = go (forwards op t) refl
  where
    go : (b : Bool) → forwards op t ≡ b → (w : List ℕ) × (forwarded op (r ++ y) ≡ only_if (forwards op t) r ++ w)
    go false f = (forwarded op (r ++ y), rw (f, only_if))
    go true f = let g : Grown op r y t f = shown op r y t f j x v e (front_by (extent_of op) (r ++ y)) (shows op (r ++ y)) in (g.0, rw (f, only_if) g.1)

-- what stands of the tail r among the forwarded bytes stays there
tail_grows : (op : Opening) (r y : List ℕ) (x : Stage) → Shows op r (part x) → (w : List ℕ) × (forwarded op (r ++ y) ≡ from_tail op r x ++ w)
unfolding from_tail
tail_grows op r y x (sees_type e) = (forwarded op (r ++ y), refl)
tail_grows op r y x (sees_length {t = t} {j = j} e d) = typed_grows op r y t j x (sees_length e d) ((reads r t j e).stays y)
tail_grows op r y x (sees_value {t = t} {j = j} e d h) = typed_grows op r y t j x (sees_value e d h) ((reads r t j e).stays y)

forwarded_split : (op : Opening) (s y : List ℕ) → forwarded op (s ++ y) ≡ from_capsules op (parts_for op s).capsules ++ forwarded op ((parts_for op s).tail ++ y)
unfolding forwarded from_parts
forwarded_split op s y =
    let q = parts_for op ((parts_for op s).tail ++ y) in
    rw (for_append op s y, from_capsules-append op (parts_for op s).capsules q.capsules, append_assoc)

pub forwarded_grows : ForwardedGrows
unfolding forwarded from_parts
forwarded_grows op s y =
    let g = tail_grows op (parts_for op s).tail y (parts_for op s).stage (tail_shows op s) in
    (g.0, forwarded_split op s y ∙ ap (λ (l : List ℕ). from_capsules op (parts_for op s).capsules ++ l) g.1 ∙ sym (append_assoc (from_capsules op (parts_for op s).capsules) (from_tail op (parts_for op s).tail (parts_for op s).stage) g.0))
