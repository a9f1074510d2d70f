-- One accepted feeding: what the reader does is what the book says. Assumes nothing.
use Rattle.std.specs.Prelude.{Option, Some, None}
use Rattle.opening.specs.declared.Report.{Report}
use Rattle.walks.proofs.Words.{◌≡◌, refl, sym, ap, ◌∙◌, subst, ℕ, ◌+◌, ◌-◌, ◌≤◌, ◌<◌, arith, true, List, [], ◌++◌, length, take, drop, take-length}
use Rattle.capsule_laws.proofs.Terms.{Bytes, held_bytes, bytes-append, bytes_take, empty-is, Opening, Plan, InType, Stage, in_type, in_length, in_value, Front, part, whole, front_by, Parts, longest_address_value, opted, extent_of, forwards, gathers, keeps, parts_for, only_if, forwarded, Taken, append, reported, ended_by, payload_by, phase_at, phase_of, no_bytes, plan_head, plan_of, held_of, wrote, judged_in, front_of, StandsAt}
use Rattle.capsule_laws.proofs.{Grammar.part_none, Appending.Shows, Appending.shows, Appending.tail_shows, Appending.for_bytes, Appending.parts_goes, Appending.parts-ends, Appending.append_goes, Appending.append-ends, Plans.plan_at, Plans.plan-is, Forwarding.forwarded_goes, Forwarding.forwarded-ends, Gathering.after, Gathering.gathering_buffer, Gathering.second_buffer, Gathering.goes_in, Gathering.ends_in, Gathering.same_report, Gathering.same_payload}

-- the plan, against what the book makes of the piece: g is the gathering buffer, a the second one
pub record Same (op : Opening) (s p g a : List ℕ) (plan : Plan) (t : Taken) : Type 0 where
  pub phase : plan.next ≡ phase_of op (parts_for op t.stream)
  pub consumed : plan.consumed ≡ t.consumed
  pub most : plan.consumed ≤ length p
  pub progress : 0 < length p → 0 < plan.consumed
  pub ended : judged_in plan.ended (after plan.keep plan p a) ≡ ended_by op t.capsule
  pub writes : forwarded op t.stream ≡ forwarded op s ++ wrote plan.forward (held_of (phase_of op (parts_for op s))) plan.consumed p
  pub payload : front_of (ended_by op t.capsule) (after plan.store plan p g) (after plan.keep plan p a) ≡ payload_by op t.capsule
  pub gathered : StandsAt (gathers op) (parts_for op t.stream).tail (parts_for op t.stream).stage (after plan.store plan p g)
  pub kept : StandsAt (keeps op) (parts_for op t.stream).tail (parts_for op t.stream).stage (after plan.keep plan p a)
  pub bytes : Bytes t.stream

next-is : (op : Opening) (r p : List ℕ) (y : Stage) → (plan_at op r p (part y)).next ≡ phase_at op (r ++ p) y
unfolding plan_at plan_head phase_at
next-is op r p in_type = refl
next-is op r p (in_length t j) = refl
next-is op r p (in_value t n j) = refl

pub count-is : (op : Opening) (r p : List ℕ) (y : Stage) → (plan_at op r p (part y)).consumed ≡ length p
unfolding plan_at plan_head
count-is op r p in_type = refl
count-is op r p (in_length t j) = refl
count-is op r p (in_value t n j) = refl

pub nothing_is : (op : Opening) (r p : List ℕ) (y : Stage) → (plan_at op r p (part y)).ended ≡ None
unfolding plan_at plan_head
nothing_is op r p in_type = refl
nothing_is op r p (in_length t j) = refl
nothing_is op r p (in_value t n j) = refl

pub between : (op : Opening) → InType no_bytes ≡ phase_at op [] in_type
unfolding phase_at
between op = ap InType (sym empty-is)

module _ (op : Opening) (s p g a : List ℕ) (w : Bytes s) (h : Bytes p) where
  abbrev r : List ℕ
  r = (parts_for op s).tail

  abbrev x : Stage
  x = (parts_for op s).stage

  module _ (m : op.limit ≤ length g) (o : opted op ≡ true → longest_address_value ≤ length a) (sg : StandsAt (gathers op) r x g) (sa : StandsAt (keeps op) r x a) where
    -- no capsule ends
    same_goes : (y : Stage) → Shows op (r ++ p) (part y) → Same op s p g a (plan_at op r p (part y)) (record { stream = s ++ p; consumed = length p; capsule = None })
    unfolding ended_by payload_by front_of phase_of judged_in
    same_goes y v =
        let e = parts_goes op s p y v in
        let plan = plan_at op r p (part y) in
        let c = count-is op r p y in
        record {
          phase = next-is op r p y ∙ ap (λ (z : Parts). phase_at op z.tail z.stage) (sym e);
          consumed = c;
          most = omega arith;
          progress = λ l. omega arith;
          ended = ap (λ (z : Option Report). judged_in z (after plan.keep plan p a)) (nothing_is op r p y);
          writes = forwarded_goes op s w p y v ∙ ap (λ (n : ℕ). forwarded op s ++ wrote plan.forward (held_of (phase_at op r x)) n p) (sym c);
          payload = refl;
          gathered = subst (λ (z : Parts). StandsAt (gathers op) z.tail z.stage (after plan.store plan p g)) (sym e) (goes_in op (gathers op) (λ (z : Plan). z.store) r p g x (tail_shows op s) sg (gathering_buffer op g m) y v);
          kept = subst (λ (z : Parts). StandsAt (keeps op) z.tail z.stage (after plan.keep plan p a)) (sym e) (goes_in op (keeps op) (λ (z : Plan). z.keep) r p a x (tail_shows op s) sa (second_buffer op a o) y v);
          bytes = bytes-append s p w h;
        }

    -- the last byte that is consumed ends one
    same_ends : (t n j : ℕ) → Shows op (r ++ p) (whole t n j) → Same op s p g a (plan_at op r p (whole t n j)) (append op s p)
    unfolding plan_at ended_by payload_by reported front_of phase_of judged_in
    same_ends t n j v =
        let d = append-ends op s p t n j v in
        let q = take d.count p in
        let e = parts-ends op s q t n j d.seen d.all in
        let z = part_none r x p t n j (tail_shows op s) v in
        let value = drop j (r ++ q) in
        let cut : drop j (r ++ take (j + extent_of op t n - length r) p) ≡ value = ap (λ (c : ℕ). drop j (r ++ take c p)) (sym d.last) in
        let hg : gathers op t n ≡ true → take n g' ≡ value = λ gs. ends_in op (gathers op) (λ (z : Plan). z.store) r p g x (tail_shows op s) sg (gathering_buffer op g m) t n j v (omega arith) gs ∙ cut in
        let ha : keeps op t n ≡ true → take n a' ≡ value = λ gs. ends_in op (keeps op) (λ (z : Plan). z.keep) r p a x (tail_shows op s) sa (second_buffer op a o) t n j v (omega arith) gs ∙ cut in
        subst (Same op s p g a (plan_at op r p (whole t n j))) (sym d.is) (record {
          phase = between op ∙ ap (λ (z : Parts). phase_at op z.tail z.stage) (sym e);
          consumed = sym d.last;
          most = omega (arith, d.last, d.most);
          progress = λ i. omega (arith, d.last, d.some_byte);
          ended = ap Some (same_report op t n g' a' value hg ha);
          writes = forwarded-ends op s w q t n j d.seen d.all ∙ ap (λ (l : List ℕ). forwarded op s ++ l) (wrote_front d.count (j + extent_of op t n - length r) d.last);
          payload = same_payload op t n g' a' value hg ha;
          gathered = subst (λ (z : Parts). StandsAt (gathers op) z.tail z.stage g') (sym e) tt;
          kept = subst (λ (z : Parts). StandsAt (keeps op) z.tail z.stage a') (sym e) tt;
          bytes = bytes-append s q w (bytes_take d.count p h);
        })
      where
        g' : List ℕ
        g' = after (plan_at op r p (whole t n j)).store (plan_at op r p (whole t n j)) p g

        a' : List ℕ
        a' = after (plan_at op r p (whole t n j)).keep (plan_at op r p (whole t n j)) p a

        wrote_front : (c c' : ℕ) → c ≡ c'
            → wrote (forwards op t) (held_of (phase_of op (parts_for op s))) (length (take c p)) (take c p) ≡ wrote (forwards op t) (held_of (phase_of op (parts_for op s))) c' p
        wrote_front c c' e =
            unfold wrote in ap (λ (l : List ℕ). only_if (forwards op t) (held_bytes (held_of (phase_of op (parts_for op s))) ++ l)) (take-length (take c p) ∙ ap (λ (i : ℕ). take i p) e)

    pub same : Same op s p g a (plan_of op p (phase_of op (parts_for op s))) (append op s p)
    unfolding phase_of
    same = subst (λ (plan : Plan). Same op s p g a plan (append op s p)) (sym (plan-is op r p (for_bytes op s w) x (tail_shows op s))) (go (front_by (extent_of op) (r ++ p)) (shows op (r ++ p)))
      where
        go : (f : Front) → Shows op (r ++ p) f → Same op s p g a (plan_at op r p f) (append op s p)
        go (part y) v = subst (Same op s p g a (plan_at op r p (part y))) (sym (append_goes op s p y v)) (same_goes y v)
        go (whole t n j) v = same_ends t n j v
