-- The state after a list of calls, by the consumed bytes and the reader's own finished mark, and how many capsules it reports, whatever buffers
-- are lent. Assumes nothing.
use Rattle.std.specs.Prelude.{Some, None, Ok}
use Rattle.walks.proofs.Words.{◌≡◌, refl, sym, ap, ◌∙◌, subst, ℕ, Bool, true, false, List, [], ◌∷◌, ◌++◌, append_assoc, append-nil, length, take, take-length, ◌+◌, arith, length-append}
use Rattle.capsule_laws.proofs.Terms.{Bytes, Role, Opening, Reader, Lent, Call, feed, run, Reply, refused, fed, closed, finishes_in, parts_for, append, new_book, phase_of, reader_of, of_book, opening, open_of, fed_by, take_of, feed_reply, reader_call, judged_in, plan_of, CallBytes, AllBytes, consumed_by, consumed_in, StateDecided, Short, AllShort, reports_in, reports, Report, Plan, Front, part, whole, front_by, Capsule, Parts, extent_of, report_of, no_true}
use Rattle.capsule_laws.proofs.{Appending.one, Appending.Shows, Appending.shows, Appending.tail_shows, Appending.for_bytes, Appending.parts_goes, Appending.parts-ends, Appending.append-ends, Lists.open_fresh, Lists.fresh_book, Origins.planned, Plans.plan_at, Plans.plan-is, Steps.count-is, Steps.nothing_is, Marks.short_report, Graphs.Calls, Graphs.refuses_piece, Graphs.takes_piece, Graphs.refuses_close, Graphs.closes, Graphs.calls, Consuming.consumed_exactly}

-- ---- a piece ends a capsule exactly if its consumed bytes complete one

data Step (op : Opening) (s p : List ℕ) (plan : Plan) : Type 0 where
  goes : plan.ended ≡ None → (parts_for op (s ++ take plan.consumed p)).capsules ≡ (parts_for op s).capsules → Step op s p plan
  ends : (c : Capsule) → plan.ended ≡ Some (report_of op c.ctype c.size)
      → (parts_for op (s ++ take plan.consumed p)).capsules ≡ (parts_for op s).capsules ++ (c ∷ []) → Step op s p plan

step : (op : Opening) (s p : List ℕ) → Bytes s → Step op s p (plan_of op p (phase_of op (parts_for op s)))
unfolding phase_of
step op s p w = subst (Step op s p) (sym (plan-is op r p (for_bytes op s w) (parts_for op s).stage (tail_shows op s))) (go (front_by (extent_of op) (r ++ p)) (shows op (r ++ p)))
  where
    r : List ℕ
    r = (parts_for op s).tail

    go : (f : Front) → Shows op (r ++ p) f → Step op s p (plan_at op r p f)
    go (part y) v =
        goes (nothing_is op r p y)
        (ap (λ (n : ℕ). (parts_for op (s ++ take n p)).capsules) (count-is op r p y) ∙ ap (λ (l : List ℕ). (parts_for op (s ++ l)).capsules) (take-length p) ∙ ap (λ (x : Parts). x.capsules) (parts_goes op s p y v))
    go (whole t n j) v =
        let d = append-ends op s p t n j v in
        ends (one t n j (r ++ take d.count p)) (unfold plan_at in refl)
        (unfold plan_at in ap (λ (c : ℕ). (parts_for op (s ++ take c p)).capsules) (sym d.last) ∙ ap (λ (x : Parts). x.capsules) (parts-ends op s (take d.count p) t n j d.seen d.all))

all-short-one : (op : Opening) (cs : List Capsule) (c : Capsule) → AllShort op cs → Short op c.ctype c.size → AllShort op (cs ++ (c ∷ []))
all-short-one op [] c h e = (e, tt)
all-short-one op (d ∷ cs) c h e = (h.0, all-short-one op cs c h.1 e)

reports_of : (x : Reply) (xs : List Reply) → length (reports (x ∷ xs)) ≡ length (reports (x ∷ [])) + length (reports xs)
unfolding reports
reports_of (refused r) xs = let z : length (reports xs) ≡ 0 + length (reports xs) = omega arith in z
reports_of (closed a) xs = let z : length (reports xs) ≡ 0 + length (reports xs) = omega arith in z
reports_of (fed consumed written w e payload) xs = length-append (reports_in e) (reports xs) ∙ ap (λ (l : List Report). length l + length (reports xs)) (sym (append-nil (reports_in e)))

-- ---- some calls lead from the stream s and the mark f to the state x, which is made from the stream t and its own mark, with n reports

pub record Made (op : Opening) (s : List ℕ) (f : Bool) (t : List ℕ) (x : Reader) (n : ℕ) : Type 0 where
  pub is : x ≡ reader_of op t x.finished
  pub bytes : Bytes t
  pub count : length (parts_for op t).capsules ≡ length (parts_for op s).capsules + n
  unfinished : x.finished ≡ false → f ≡ false
  pub short : x.finished ≡ false → AllShort op (parts_for op s).capsules → AllShort op (parts_for op t).capsules

-- an accepted piece, whatever stands in the second buffer
by_step : (op : Opening) (s p a : List ℕ) (plan : Plan) → Bytes (s ++ take plan.consumed p) → plan.next ≡ phase_of op (parts_for op (s ++ take plan.consumed p)) → Step op s p plan
    → let e = judged_in plan.ended a in Made op s false (s ++ take plan.consumed p) (record { opening = op; phase = plan.next; finished = finishes_in e }) (length (reports_in e))
unfolding judged_in finishes_in reports_in reader_of
by_step op s p a plan w n (goes e g) = rw e (record {
  is = λ i. record { opening = op; phase = n i; finished = false };
  bytes = w;
  count = rw g (omega arith);
  unfinished = λ f. refl;
  short = λ f h. rw g h;
})
by_step op s p a plan w n (ends c e g) = rw e (record {
  is = λ i. record { opening = op; phase = n i; finished = finishes_in (judged_in (Some (report_of op c.ctype c.size)) a) };
  bytes = w;
  count = ap length g ∙ length-append (parts_for op s).capsules (c ∷ []);
  unfinished = λ f. refl;
  short = λ f h. rw g (all-short-one op (parts_for op s).capsules c h (short_report op c.ctype c.size _ f));
})

module _ (op : Opening) (s : List ℕ) (f : Bool) (w : Bytes s) where
  -- nothing is consumed and nothing reported; the reader may have finished
  nothing-more : (g : Bool) → (g ≡ false → f ≡ false) → Made op s f (s ++ []) (reader_of op s g) 0
  unfolding reader_of
  nothing-more g h = rw append-nil (record { is = refl; bytes = w; count = omega arith; unfinished = h; short = λ e a. a })

  taken : (p : List ℕ) (b : Lent) → Bytes p → f ≡ false
      → let x = take_of (reader_of op s f) p b in Made op s f (s ++ consumed_by (feed p b) (feed_reply x.answer x.buffers)) x.reader (length (reports (feed_reply x.answer x.buffers ∷ [])))
  unfolding reader_of take_of fed_by feed_reply consumed_by reports
  taken p b h e =
      let plan = plan_of op p (phase_of op (parts_for op s)) in
      let q = (planned op s p w h).2 in
      let stream : (append op s p).stream ≡ s ++ take plan.consumed p = (consumed_exactly op s p).stream ∙ ap (λ (n : ℕ). s ++ take n p) (sym q.consumed) in
      rw (e, append-nil) (by_step op s p _ plan (rw stream at q.bytes) (q.phase ∙ ap (λ (l : List ℕ). phase_of op (parts_for op l)) stream) (step op s p w))

  pub made_call : (c : Call) → CallBytes c → let x = reader_call (reader_of op s f) c in Made op s f (s ++ consumed_by c x.1) x.0 (length (reports (x.1 ∷ [])))
  made_call c h = go h (calls (reader_of op s f) c)
    where
      go : {c : Call} {x : Reader × Reply} → CallBytes c → Calls (reader_of op s f) c x → Made op s f (s ++ consumed_by c x.1) x.0 (length (reports (x.1 ∷ [])))
      go h (refuses_piece why i) = unfold consumed_by reports in nothing-more f (λ e. e)
      go h (takes_piece {p = p} {b = b} v i) = taken p b h (unfold reader_of in i)
      go h (refuses_close why i) = unfold consumed_by reports in nothing-more f (λ e. e)
      go h closes = unfold consumed_by reports reader_of in nothing-more true (λ e. no_true (sym e))

all : (op : Opening) (s : List ℕ) (f : Bool) (cs : List Call) → Bytes s → AllBytes cs
    → let x = run reader_call (reader_of op s f) cs in Made op s f (s ++ consumed_in cs x.1) x.0 (length (reports x.1))
unfolding run consumed_in
all op s f [] w h = unfold reports in nothing-more op s f w f (λ e. e)
all op s f (c ∷ cs) w h =
    let x = reader_call (reader_of op s f) c in
    let a = made_call op s f w c h.0 in
    let t = s ++ consumed_by c x.1 in
    let y = run reader_call x.0 cs in
    let b : Made op t x.0.finished (t ++ consumed_in cs y.1) y.0 (length (reports y.1)) =
    subst (λ (r : Reader). let z = run reader_call r cs in Made op t x.0.finished (t ++ consumed_in cs z.1) z.0 (length (reports z.1))) (sym a.is) (all op t x.0.finished cs a.bytes h.1) in
    rw (reports_of x.1 y.1, ← (append_assoc s (consumed_by c x.1) (consumed_in cs y.1))) (record {
      is = b.is;
      bytes = b.bytes;
      count = omega (arith, a.count, b.count);
      unfinished = λ e. a.unfinished (b.unfinished e);
      short = λ e i. b.short e (a.short (b.unfinished e) i);
    })

module _ (role : Role) (limit : ℕ) (draft addresses : Bool) (r : Reader) (e : open_of role limit draft addresses ≡ Ok r) where
  starts-at : r ≡ reader_of (opening role limit draft addresses) [] false
  starts-at = (open_fresh role limit draft addresses r e).1 ∙ (unfold of_book new_book in fresh_book (opening role limit draft addresses))

  pub made_calls : (cs : List Call) → AllBytes cs → let x = run reader_call r cs in Made (opening role limit draft addresses) [] false (consumed_in cs x.1) x.0 (length (reports x.1))
  made_calls cs h = rw starts-at (all (opening role limit draft addresses) [] false cs tt h)

pub state_decided : StateDecided
state_decided role limit draft addresses r e cs h = (made_calls role limit draft addresses r e cs h).is
