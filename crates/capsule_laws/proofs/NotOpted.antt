-- A reader that did not opt in answers as before request 4. Assumes nothing.
use Rattle.std.specs.Prelude.{Some, None, Result, Ok, Err}
use Rattle.refusals.specs.declared.Refusal.{Refusal}
use Rattle.walks.proofs.Words.{◌≡◌, refl, ap, ◌∙◌, ℕ, ◌+◌, ◌-◌, arith, Bool, true, false, cond, ◌&&◌, ◌||◌, Option, List, [], ◌∷◌, ◌++◌, length, take, drop, length-drop, leb, eqb, or-false}
use Rattle.capsule_laws.proofs.Terms.{Partial, Impossible, More, Ends, take_varint, Role, Endpoint, Intermediary, Datagram, Unknown, Opening, Report, Delivered, Dropped, Plan, Phase, InType, InLength, InValue, Reader, finished, unmakeable_state, Extent, Stage, in_type, in_length, in_value, parts_by, parts, opted, kind_of, extent_by, extent_of, report_by, report_of, judged, finishes, only_delivered, forwards_by, forwards, gathers_by, gathers, keeps_by, keeps, length_of, Lent, lent, Call, feed, close, Reply, run, finishes_in, addresses_verdict, lent_verdict, parts_for, from_capsules, from_tail, from_parts, forwarded, completes, Taken, append, reported, ended_by, payload_by, Book, book_verdict, gained, book_feed, book_close, book_call, no_bytes, is_makeable_phase, plan_value, plan_head, plan_length, plan_type, plan_of, is_opening, is_makeable, verdict_of, stored, judged_in, feeding, fed_by, take_of, feed_by, feed_of, end_at, closing, close_of, front_of, feed_reply, reader_call, NotOptedGrammar, AsBefore, ClosesAsBefore, AnswersAsBefore, BookAsBefore}
use Rattle.wire.specs.declared.partial.VarintTaken as wire
use Rattle.capsule.specs.Grammar as grammar
use Rattle.capsule_laws.specs.Before as before
use Rattle.capsule_laws.proofs.Appending.{Outcome, goes, ends, outcome}

-- ---- the reports that there were

-- what request 4 left as it was of a report
record Old (r : Report) : Type 0 where
  judges : (v : List ℕ) → judged r v ≡ r
  finish : finishes r ≡ false
  only : (g a : List ℕ) → only_delivered r g a ≡ before.only_delivered r g
  size : length_of r ≡ before.length_of r

old_by : (role : Role) (limit : ℕ) (d : Bool) (t n : ℕ) → Old (before.report_by role limit (cond d Datagram Unknown) t n)
unfolding before.report_by judged finishes only_delivered before.only_delivered length_of before.length_of
old_by role limit true t n = go (leb n limit)
  where
    go : (b : Bool) → Old (cond b (Delivered n) (Dropped n))
    go true = record { judges = λ v. refl; finish = refl; only = λ g a. refl; size = refl }
    go false = record { judges = λ v. refl; finish = refl; only = λ g a. refl; size = refl }
old_by Endpoint limit false t n = record { judges = λ v. refl; finish = refl; only = λ g a. refl; size = refl }
old_by Intermediary limit false t n = record { judges = λ v. refl; finish = refl; only = λ g a. refl; size = refl }

old_report : (op : Opening) (t n : ℕ) → Old (before.report_of op t n)
unfolding before.report_of before.kind_of
old_report op t n = old_by op.role op.limit (eqb t 0 || (op.draft && eqb t 0xff37a5)) t n

-- and of what a feeding ended
record OldEnded (e : Option Report) : Type 0 where
  judges : (a : List ℕ) → judged_in e a ≡ e
  finish : finishes_in e ≡ false
  front : (g a : List ℕ) → front_of e g a ≡ before.front_of e g

nothing : OldEnded None
unfolding judged_in finishes_in front_of before.front_of
nothing = record { judges = λ a. refl; finish = refl; front = λ g a. refl }

capsule : {r : Report} → Old r → OldEnded (Some r)
unfolding judged_in finishes_in front_of before.front_of
capsule {r} o = record {
  judges = λ a. ap Some (o.judges (take (length_of r) a));
  finish = o.finish;
  front = λ g a. o.only (take (length_of r) g) (take (length_of r) a) ∙ ap (λ (n : ℕ). before.only_delivered r (take n g)) o.size;
}

-- ---- by the type

by_kind : (r : Role) (limit : ℕ) (d : Bool) (t n : ℕ) →
    let k = cond d Datagram Unknown in
    (extent_by k n ≡ n) × (report_by r limit k t n ≡ before.report_by r limit k t n) × (forwards_by r k ≡ before.forwards_by r k) × (gathers_by k limit n ≡ before.gathers_by k limit n) × (keeps_by k n ≡ false)
unfolding extent_by report_by before.report_by forwards_by before.forwards_by gathers_by before.gathers_by keeps_by
by_kind Endpoint limit true t n = (refl, refl, refl, refl, refl)
by_kind Endpoint limit false t n = (refl, refl, refl, refl, refl)
by_kind Intermediary limit true t n = (refl, refl, refl, refl, refl)
by_kind Intermediary limit false t n = (refl, refl, refl, refl, refl)

-- a plan is the one from before, which keeps nothing and ended as it did
record Planned (plan old : Plan) : Type 0 where
  is : plan ≡ old
  ended : OldEnded old.ended
  keep : old.keep ≡ false

module _ (op : Opening) (e : opted op ≡ false) where
  type_is : (t n : ℕ) → (extent_of op t n ≡ n) × (report_of op t n ≡ before.report_of op t n) × (forwards op t ≡ before.forwards op t) × (gathers op t n ≡ before.gathers op t n) × (keeps op t n ≡ false)
  unfolding extent_of report_of before.report_of forwards before.forwards gathers before.gathers keeps kind_of before.kind_of
  type_is t n = rw e (by_kind op.role op.limit (eqb t 0 || (op.draft && eqb t 0xff37a5)) t n)

  pub extent_is : (t n : ℕ) → extent_of op t n ≡ n
  extent_is t n = (type_is t n).0

  forwards-is : (t : ℕ) → forwards op t ≡ before.forwards op t
  forwards-is t = (type_is t 0).2

  -- ---- plans

  head_is : (next : Phase) (c : ℕ) (f : Bool) → Planned (plan_head next c f) (plan_head next c f)
  unfolding plan_head
  head_is next c f = record { is = refl; ended = nothing; keep = refl }

  by_test : (b : Bool) (x y : Plan) → OldEnded x.ended → OldEnded y.ended → x.keep ≡ false → y.keep ≡ false → Planned (cond b x y) (cond b x y)
  by_test true x y o u k l = record { is = refl; ended = o; keep = k }
  by_test false x y o u k l = record { is = refl; ended = u; keep = l }

  value-is : (p : List ℕ) (at t n left : ℕ) → Planned (plan_value op p at t n left) (before.plan_value op p at t n left)
  unfolding plan_value before.plan_value
  value-is p at t n left =
      let q = type_is t n in rw (q.1, q.2, q.3, q.4, q.0) (by_test (leb left (length p - at)) _ _ (capsule (old_report op t n)) nothing refl refl)

  length-is : (p : List ℕ) (at t : ℕ) (part : Partial) → Planned (plan_length op p at t part) (before.plan_length op p at t part)
  unfolding plan_length before.plan_length
  length-is p at t part = go (take_varint part (drop at p)) refl
    where
      go : (r : wire.VarintTaken) → take_varint part (drop at p) ≡ r → Planned (plan_length op p at t part) (before.plan_length op p at t part)
      go Impossible d = rw (d, plan_length, before.plan_length) (head_is (InLength t part) 0 false)
      go (More q) d = rw (d, plan_length, before.plan_length, forwards-is t) (head_is (InLength t q) (length p) (before.forwards op t))
      go (Ends used n) d = rw (d, plan_length, before.plan_length, extent_is t n) (value-is p (at + used) t n n)

  plan-is : (p : List ℕ) (phase : Phase) → Planned (plan_of op p phase) (before.plan_of op p phase)
  unfolding plan_of before.plan_of plan_type before.plan_type
  plan-is p (InType part) = go (take_varint part p) refl
    where
      go : (r : wire.VarintTaken) → take_varint part p ≡ r → Planned (plan_type op p part) (before.plan_type op p part)
      go Impossible d = rw (d, plan_type, before.plan_type) (head_is (InType part) 0 false)
      go (More q) d = rw (d, plan_type, before.plan_type) (head_is (InType q) (length p) false)
      go (Ends used t) d = rw (d, plan_type, before.plan_type) (length-is p used t no_bytes)
  plan-is p (InLength t part) = length-is p 0 t part
  plan-is p (InValue t n left) = value-is p 0 t n left

-- ---- refusals

module _ (op : Opening) (e : opted op ≡ false) where
  lent_is : (piece g a o : ℕ) → lent_verdict op piece g a o ≡ before.lent_verdict op piece g o
  unfolding lent_verdict before.lent_verdict addresses_verdict
  lent_is piece g a o = rw e

  phase-is : (phase : Phase) → is_makeable_phase op phase ≡ before.is_makeable_phase phase
  unfolding is_makeable_phase before.is_makeable_phase
  phase-is (InType part) = refl
  phase-is (InLength t part) = refl
  phase-is (InValue t n left) = rw (extent_is op e t n)

module _ (r : Reader) (e : opted r.opening ≡ false) where
  makeable_is : is_makeable r ≡ before.is_makeable r
  unfolding is_makeable before.is_makeable
  makeable_is = ap (λ (b : Bool). is_opening r.opening && b) (phase-is r.opening e r.phase)

  verdict_is : (piece g a o : ℕ) → verdict_of r piece g a o ≡ before.verdict_of r piece g o
  unfolding verdict_of before.verdict_of
  verdict_is piece g a o = rw (makeable_is, lent_is r.opening e piece g a o)

-- ---- feeding and closing

module _ (r : Reader) (p : List ℕ) (b : Lent) (e : opted r.opening ≡ false) where
  taken_is : take_of r p b ≡ feeding (before.take_of r p b.gathering b.output).reader (before.take_of r p b.gathering b.output).answer (lent (before.take_of r p b.gathering b.output).gathering b.addresses (before.take_of r p b.gathering b.output).output)
  unfolding take_of fed_by before.take_of before.fed_by
  taken_is =
      let q = plan-is r.opening e p r.phase in
      rw (q.is, q.keep) (unfold stored in rw (q.ended.judges b.addresses, q.ended.finish))

pub as_before : AsBefore
unfolding feed_of before.feed_of
as_before r p b e = rw (verdict_is r e (length p) (length b.gathering) (length b.addresses) (length b.output)) (go (before.verdict_of r (length p) (length b.gathering) (length b.output)))
  where
    go : (v : (Result (Unit {0}) Refusal)) → feed_by r p b v ≡ feeding (before.feed_by r p b.gathering b.output v).reader (before.feed_by r p b.gathering b.output v).answer (lent (before.feed_by r p b.gathering b.output v).gathering b.addresses (before.feed_by r p b.gathering b.output v).output)
    go (Err why) = unfold feed_by before.feed_by in refl
    go (Ok tt) = unfold feed_by before.feed_by in taken_is r p b e

pub closes_as_before : ClosesAsBefore
unfolding close_of before.close_of
closes_as_before r e = rw (makeable_is r e)

-- ---- the grammar

pub not_opted_grammar : NotOptedGrammar
unfolding parts_for
not_opted_grammar op s e = ap (λ (x : Extent). parts_by x s) (λ i. λ t n. extent_is op e t n i)

-- ---- lists of calls

-- calls that are answered alike while nobody opted in, and that leave the opening
runs_as : {S : Type 0} (call old : S → Call → S × Reply) (opening : S → Opening)
    → ((s : S) (c : Call) → opted (opening s) ≡ false → (call s c ≡ old s c) × (opening (old s c).0 ≡ opening s))
    → (s : S) (cs : List Call) → opted (opening s) ≡ false → run call s cs ≡ run old s cs
unfolding run
runs_as call old opening one s [] e = refl
runs_as call old opening one s (c ∷ cs) e =
    let a = one s c e in rw (a.0, runs_as call old opening one (old s c).0 cs (ap opted a.1 ∙ e))

-- ---- on a reader

module _ (r : Reader) (p : List ℕ) (b : Lent) (e : opted r.opening ≡ false) where
  abbrev old : (Result (Unit {0}) Refusal) → before.Feeding
  old v = before.feed_by r p b.gathering b.output v

  reply_is : (a : List ℕ) (v : (Result (Unit {0}) Refusal)) → feed_reply (old v).answer (lent (old v).gathering a (old v).output) ≡ before.feed_reply (old v).answer (old v).gathering (old v).output
  unfolding before.feed_by before.take_of before.fed_by feed_reply before.feed_reply
  reply_is a (Err why) = refl
  reply_is a (Ok tt) = rw ((plan-is r.opening e p r.phase).ended.front (old (Ok tt)).gathering a)

  opening-is : (v : (Result (Unit {0}) Refusal)) → (old v).reader.opening ≡ r.opening
  unfolding before.feed_by before.take_of before.fed_by
  opening-is (Err why) = refl
  opening-is (Ok tt) = refl

  fed-is : (reader_call r (feed p b) ≡ before.reader_call r (feed p b)) × ((before.reader_call r (feed p b)).0.opening ≡ r.opening)
  unfolding reader_call before.reader_call before.feed_of
  fed-is = (rw (as_before r p b e) (unfold before.feed_of in rw (reply_is b.addresses v)), opening-is v)
    where
      v : (Result (Unit {0}) Refusal)
      v = before.verdict_of r (length p) (length b.gathering) (length b.output)

closed_is : (r : Reader) → opted r.opening ≡ false → (reader_call r close ≡ before.reader_call r close) × ((before.reader_call r close).0.opening ≡ r.opening)
unfolding reader_call before.reader_call before.close_of
closed_is r e = (rw (closes_as_before r e), go (before.is_makeable r) r.finished)
  where
    go : (m f : Bool) → (cond m (cond f (closing r (Err finished)) (closing (record { opening = r.opening; phase = r.phase; finished = true }) (Ok (end_at r.phase)))) (closing r (Err unmakeable_state))).reader.opening ≡ r.opening
    go true true = refl
    go true false = refl
    go false f = refl

reader_call_is : (r : Reader) (c : Call) → opted r.opening ≡ false → (reader_call r c ≡ before.reader_call r c) × ((before.reader_call r c).0.opening ≡ r.opening)
reader_call_is r (feed p b) e = fed-is r p b e
reader_call_is r close e = closed_is r e

pub answers_as_before : AnswersAsBefore
answers_as_before r cs e = runs_as reader_call before.reader_call (λ r. r.opening) reader_call_is r cs e

-- ---- the book

old_some : (op : Opening) → opted op ≡ false → (c : grammar.Capsule) → c.size ≡ length c.value → reported op c ≡ before.reported op c
unfolding reported before.reported
old_some op e c s = rw ((type_is op e c.ctype c.size).1, s) ((old_report op c.ctype (length c.value)).judges c.value)

-- a capsule that a piece completes has the length that it says
Sized : Option grammar.Capsule → Type 0
Sized None = Unit {0}
Sized (Some c) = c.size ≡ length c.value

module _ (op : Opening) (e : opted op ≡ false) where
  sized : (s p : List ℕ) → Sized (append op s p).capsule
  unfolding Sized
  sized s p = go (append op s p) (outcome op p s)
    where
      go : (t : Taken) → Outcome op s p t → Sized t.capsule
      go t (goes y v i) = rw i tt
      go t (ends u n j c v l f g i) = rw i (omega (arith, extent_is op e u n, length-drop j ((parts_for op s).tail ++ take c p)))

  ended_is : (c : Option grammar.Capsule) → Sized c → (ended_by op c ≡ before.ended_by op c) × (payload_by op c ≡ before.payload_by op c) × OldEnded (before.ended_by op c)
  unfolding Sized ended_by payload_by before.ended_by before.payload_by
  ended_is None s = (refl, refl, nothing)
  ended_is (Some c) s =
      let r = old_some op e c s in
      let o : Old (before.reported op c) = unfold before.reported in old_report op c.ctype (length c.value) in
      (ap Some r, rw r (o.only c.value c.value), capsule o)

  from_capsules_lem : (cs : List grammar.Capsule) → from_capsules op cs ≡ before.from_capsules op cs
  unfolding from_capsules before.from_capsules
  from_capsules_lem [] = refl
  from_capsules_lem (c ∷ cs) = rw (forwards-is op e c.ctype, from_capsules_lem cs)

  from_tail_lem : (r : List ℕ) (x : Stage) → from_tail op r x ≡ before.from_tail op r x
  unfolding from_tail before.from_tail
  from_tail_lem r in_type = refl
  from_tail_lem r (in_length t j) = rw (forwards-is op e t)
  from_tail_lem r (in_value t n j) = rw (forwards-is op e t)

  forwarded-is : (s : List ℕ) → forwarded op s ≡ before.forwarded op s
  unfolding forwarded before.forwarded from_parts before.from_parts
  forwarded-is s = rw (not_opted_grammar op s e, from_capsules_lem (parts s).capsules, from_tail_lem (parts s).tail (parts s).stage)

  gained-is : (s t : List ℕ) → gained op s t ≡ before.gained op s t
  unfolding gained before.gained
  gained-is s t = rw (forwarded-is s, forwarded-is t)

  completes-is : (s : List ℕ) (b : ℕ) → completes op s b ≡ before.completes s b
  unfolding completes before.completes
  completes-is s b = rw (not_opted_grammar op s e, not_opted_grammar op (s ++ (b ∷ [])) e)

append-is : (op : Opening) → opted op ≡ false → (p s : List ℕ) → append op s p ≡ before.append s p
unfolding append before.append
append-is op e [] s = refl
append-is op e (b ∷ p) s = go (before.completes s b) refl (append-is op e p (s ++ (b ∷ [])))
  where
    go : (c : Option grammar.Capsule) → before.completes s b ≡ c → append op (s ++ (b ∷ [])) p ≡ before.append (s ++ (b ∷ [])) p → append op s (b ∷ p) ≡ before.append s (b ∷ p)
    go None d again = rw (completes-is op e s b ∙ d, append, d, before.append, again)
    go (Some c) d again = rw (completes-is op e s b ∙ d, append, d, before.append)

module _ (k : Book) (e : opted k.opening ≡ false) where
  book_verdict_is : (p : List ℕ) (b : Lent) → book_verdict k p b ≡ before.book_verdict k p b.gathering b.output
  unfolding book_verdict before.book_verdict
  book_verdict_is p b = rw (lent_is k.opening e (length p) (length b.gathering) (length b.addresses) (length b.output))

  book_feed_is : (p : List ℕ) (v : (Result (Unit {0}) Refusal)) → book_feed k p v ≡ before.book_feed k p v
  unfolding book_feed before.book_feed
  book_feed_is p (Err r) = refl
  book_feed_is p (Ok tt) =
      let op = k.opening in
      let z = ended_is op e (append op k.stream p).capsule (sized op e k.stream p) in
      rw (z.0, z.1, z.2.finish, or-false k.mark, gained-is op e k.stream (append op k.stream p).stream, append-is op e p k.stream)

  book_close-is : (m : Bool) → book_close k m ≡ before.book_close k m
  unfolding book_close before.book_close
  book_close-is true = refl
  book_close-is false = rw (not_opted_grammar k.opening k.stream e)

book_call_is : (k : Book) (c : Call) → opted k.opening ≡ false → (book_call k c ≡ before.book_call k c) × ((before.book_call k c).0.opening ≡ k.opening)
unfolding book_call before.book_call
book_call_is k (feed p b) e = (rw (book_verdict_is k e p b) (book_feed_is k e p v), go v)
  where
    v : (Result (Unit {0}) Refusal)
    v = before.book_verdict k p b.gathering b.output

    go : (v : (Result (Unit {0}) Refusal)) → (before.book_feed k p v).0.opening ≡ k.opening
    go (Err r) = unfold before.book_feed in refl
    go (Ok tt) = unfold before.book_feed in refl
book_call_is k close e = (book_close-is k e k.mark, go k.mark)
  where
    go : (m : Bool) → (before.book_close k m).0.opening ≡ k.opening
    go true = unfold before.book_close in refl
    go false = unfold before.book_close in refl

pub book_as_before : BookAsBefore
book_as_before k cs e = runs_as book_call before.book_call (λ k. k.opening) book_call_is k cs e
