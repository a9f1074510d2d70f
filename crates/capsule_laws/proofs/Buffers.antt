-- What a feeding stores in the two buffers for values. Assumes nothing.
use Rattle.walks.proofs.Words.{◌≡◌, refl, sym, ap, ◌∙◌, ℕ, ◌+◌, ◌-◌, ◌<◌, arith, Bool, false, cond, List, ◌++◌, length, take, drop, length-append, length-drop, sets, take_all, drop-append-add}
use Rattle.capsule_laws.proofs.Terms.{Opening, Plan, in_type, in_length, in_value, Front, part, whole, front_by, extent_of, gathers, keeps, parts_for, phase_of, reader_of, plan_head, plan_of, stored, Feeding, fed_by, take_of, feed_by, feed_of, zero_one, stored_from, stored_at, BuffersExactly}
use Rattle.capsule_laws.proofs.{Grammar.sees_type, Grammar.sees_length, Grammar.sees_value, Grammar.sees_whole, Appending.Shows, Appending.shows, Appending.tail_shows, Appending.for_bytes, Plans.plan_at, Plans.plan-is}

module _ (op : Opening) (r p : List ℕ) where
  -- the bytes from the value's first new one on
  behind : (j : ℕ) → drop (j + (length r - j)) (r ++ p) ≡ drop (j - length r) p
  behind j =
      let e : j + (length r - j) ≡ length r + (j - length r) = omega arith in
      ap (λ (k : ℕ). drop k (r ++ p)) e ∙ drop-append-add r p (j - length r)

  module _ (wanted : Bool) (t n j : ℕ) where
    -- as many as the piece has, and no more than the value
    ends : (consumed : ℕ) → consumed ≡ j + extent_of op t n - length r
        → take (consumed - (j - length r)) (drop (j - length r) p) ≡ take (extent_of op t n - (length r - j)) (drop (j + (length r - j)) (r ++ p))
    ends consumed c =
        let m : consumed - (j - length r) ≡ extent_of op t n - (length r - j) = omega arith in
        (λ i. take (m i) (sym (behind j) i))

    goes : length (r ++ p) < j + extent_of op t n
        → take (length p - (j - length r)) (drop (j - length r) p) ≡ take (extent_of op t n - (length r - j)) (drop (j + (length r - j)) (r ++ p))
    goes h =
        take_all (length p - (j - length r)) (drop (j - length r) p) (omega (arith, length-drop (j - length r) p))
        ∙ sym (take_all (extent_of op t n - (length r - j)) (drop (j - length r) p) (omega (arith, length-drop (j - length r) p, length-append r p)))
        ∙ ap (take (extent_of op t n - (length r - j))) (sym (behind j))

-- of a value that is cut not all bytes have come
unfinished : (op : Opening) (l : List ℕ) (f : Front) (t n j : ℕ) → Shows op l f → f ≡ part (in_value t n j) → length l < j + extent_of op t n
unfinished op l f t n j (sees_type e) i = zero_one (cc)
unfinished op l f t n j (sees_length e d) i = zero_one (cc)
unfinished op l f t n j (sees_whole e d h) i = zero_one (cc)
unfinished op l f t n j (sees_value {t = t'} {j = j'} {n = n'} {k = k'} e d h) i =
    let x : t' ≡ t = cc in
    let y : n' ≡ n = cc in
    let z : j' + k' ≡ j = cc in
    let m : extent_of op t' n' ≡ extent_of op t n = λ q. extent_of op (x q) (y q) in
    omega arith

-- of either buffer: which values it is for, and how the plan says it
module _ (op : Opening) (r p buffer : List ℕ) (stores : ℕ → ℕ → Bool) (of : Plan → Bool) where
  put : Plan → List ℕ
  put plan = stored (of plan) plan.at plan.consumed plan.place p buffer

  abbrev Says : Type 0
  Says =
      (of (plan_at op r p (part in_type)) ≡ false)
      × ((t j : ℕ) → of (plan_at op r p (part (in_length t j))) ≡ false)
      × ((t n j : ℕ) → of (plan_at op r p (part (in_value t n j))) ≡ stores t n)
      × ((t n j : ℕ) → of (plan_at op r p (whole t n j)) ≡ stores t n)

  put_is : Says → (f : Front) → Shows op (r ++ p) f → put (plan_at op r p f) ≡ stored_at (extent_of op) stores (r ++ p) (length r) f buffer
  unfolding put stored stored_at stored_from
  put_is s (part in_type) v = rw s.0
  put_is s (part (in_length t j)) v = rw (s.1 t j)
  put_is s (part (in_value t n j)) v = rw (s.2 t n j) (unfold plan_at in ap (λ (l : List ℕ). cond (stores t n) (sets buffer (length r - j) l) buffer) (goes op r p (stores t n) t n j (unfinished op (r ++ p) (part (in_value t n j)) t n j v refl)))
  put_is s (whole t n j) v = rw (s.3 t n j) (unfold plan_at in ap (λ (l : List ℕ). cond (stores t n) (sets buffer (length r - j) l) buffer) (ends op r p (stores t n) t n j (j + extent_of op t n - length r) refl))

pub buffers_exactly : BuffersExactly
unfolding take_of fed_by reader_of put
buffers_exactly op s p b w v = record {
  gathering = ap (λ (x : Feeding). x.buffers.gathering) accepted ∙ ap (put op r p b.gathering (gathers op) (λ (x : Plan). x.store)) planned ∙ put_is op r p b.gathering (gathers op) (λ (x : Plan). x.store) (unfold plan_at plan_head in (refl, λ t j. refl, λ t n j. refl, λ t n j. refl)) front (shows op (r ++ p));
  addresses = ap (λ (x : Feeding). x.buffers.addresses) accepted ∙ ap (put op r p b.addresses (keeps op) (λ (x : Plan). x.keep)) planned ∙ put_is op r p b.addresses (keeps op) (λ (x : Plan). x.keep) (unfold plan_at plan_head in (refl, λ t j. refl, λ t n j. refl, λ t n j. refl)) front (shows op (r ++ p));
}
  where
    r : List ℕ
    r = (parts_for op s).tail

    front : Front
    front = front_by (extent_of op) (r ++ p)

    accepted : feed_of (reader_of op s false) p b ≡ take_of (reader_of op s false) p b
    accepted = unfold feed_of in ap (feed_by (reader_of op s false) p b) v ∙ (unfold feed_by in refl)

    planned : plan_of op p (phase_of op (parts_for op s)) ≡ plan_at op r p front
    planned = unfold phase_of in plan-is op r p (for_bytes op s w) (parts_for op s).stage (tail_shows op s)
