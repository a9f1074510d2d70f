-- Over a whole list of calls: reports, payloads and writes in order. Assumes nothing.
use Rattle.std.specs.Prelude.{Ok}
use Rattle.capsule.specs.declared.reader.Ending.{Ending}
use Rattle.walks.proofs.Words.{◌≡◌, refl, sym, ap, ◌∙◌, ℕ, true, Option, None, Some, List, [], ◌∷◌, ◌++◌, append_assoc, append-nil, map, map-append, length, take, drop, drop-append_seam}
use Rattle.capsule_laws.proofs.Terms.{Opening, Report, Delivered, Dropped, Skipped, Passed, AddressDelivered, Malformed, Capsule, Parts, only_delivered, Call, Reply, refused, fed, closed, run, Refusal, parts_for, from_capsules, from_tail, from_parts, forwarded, Taken, append, reported, ended_by, payload_by, Book, new_book, gained, book_feed, book_call, reports_in, reports, if_delivered, if_address, Wanted, values_in, values, writes, delivered, WholeList}
use Rattle.capsule_laws.proofs.{Graphs.Books, Graphs.refuses_feed, Graphs.takes_feed, Graphs.refuses_end, Graphs.closes_book, Graphs.books, Consuming.consumed_exactly, Appending.for_nil, Appending.parts_goes, Appending.parts-ends, Appending.Outcome, Appending.goes, Appending.ends, Appending.outcome, Forwarding.forwarded_grows}

-- ---- what a piece adds to the stream

optional : Option Capsule → List Capsule
optional None = []
optional (Some c) = c ∷ []

module _ (op : Opening) (s p : List ℕ) where
  capsules_grow : (parts_for op (append op s p).stream).capsules ≡ (parts_for op s).capsules ++ optional (append op s p).capsule
  unfolding optional
  capsules_grow = go (append op s p) (outcome op p s)
    where
      go : (t : Taken) → Outcome op s p t → (parts_for op t.stream).capsules ≡ (parts_for op s).capsules ++ optional t.capsule
      go t (goes y v e) = rw e (ap (λ (x : Parts). x.capsules) (parts_goes op s p y v) ∙ sym (append-nil (parts_for op s).capsules))
      go t (ends u n j c v l f g e) = rw e (ap (λ (x : Parts). x.capsules) (parts-ends op s (take c p) u n j v l))

  writes_grow : forwarded op (append op s p).stream ≡ forwarded op s ++ gained op s (append op s p).stream
  unfolding gained
  writes_grow =
      let t = append op s p in
      let g = forwarded_grows op s (take t.consumed p) in
      let e : forwarded op t.stream ≡ forwarded op s ++ g.0 = ap (forwarded op) (consumed_exactly op s p).stream ∙ g.1 in
      e ∙ ap (λ (l : List ℕ). forwarded op s ++ l) (sym (ap (drop (length (forwarded op s))) e ∙ drop-append_seam (forwarded op s) g.0))

-- ---- lists

delivered-append : (want : Wanted) (op : Opening) (cs ds : List Capsule) → delivered want op (cs ++ ds) ≡ delivered want op cs ++ delivered want op ds
unfolding delivered
delivered-append want op [] ds = refl
delivered-append want op (c ∷ cs) ds = rw (delivered-append want op cs ds, append_assoc)

-- what is wanted of a delivered value is what is wanted of a value
abbrev Fair : Wanted → Type 0
Fair want = (r : Report) (v : List ℕ) → want r (only_delivered r v v) ≡ want r v

-- ---- what a list of answers adds

pub record Adds (op : Opening) (s : List ℕ) (rs : List Reply) (s' : List ℕ) : Type 0 where
  pub report : map (reported op) (parts_for op s').capsules ≡ map (reported op) (parts_for op s).capsules ++ reports rs
  pub payload : (want : Wanted) → Fair want → delivered want op (parts_for op s').capsules ≡ delivered want op (parts_for op s).capsules ++ values want rs
  pub write : forwarded op s' ≡ forwarded op s ++ writes rs

module _ (op : Opening) (s : List ℕ) where
  adds_none : Adds op s [] s
  unfolding reports values writes
  adds_none = record {
    report = sym (append-nil (map (reported op) (parts_for op s).capsules));
    payload = λ want f. sym (append-nil (delivered want op (parts_for op s).capsules));
    write = sym (append-nil (forwarded op s));
  }

  module _ (rs : List Reply) (s' : List ℕ) where
    adds_refused : (r : Refusal) → Adds op s rs s' → Adds op s (refused r ∷ rs) s'
    unfolding reports values writes
    adds_refused r a = record { report = a.report; payload = a.payload; write = a.write }

    adds_closed : (c : Ending) → Adds op s rs s' → Adds op s (closed c ∷ rs) s'
    unfolding reports values writes
    adds_closed c a = record { report = a.report; payload = a.payload; write = a.write }

fair : (r : Report) (v : List ℕ) → (if_delivered r (only_delivered r v v) ≡ if_delivered r v) × (if_address r (only_delivered r v v) ≡ if_address r v)
unfolding if_delivered if_address only_delivered
fair (Delivered n) v = (refl, refl)
fair (Dropped n) v = (refl, refl)
fair (Skipped t n) v = (refl, refl)
fair (Passed t n) v = (refl, refl)
fair (AddressDelivered t n) v = (refl, refl)
fair (Malformed t n) v = (refl, refl)

reports_of : (op : Opening) (c : Option Capsule) → map (reported op) (optional c) ≡ reports_in (ended_by op c)
unfolding optional reports_in ended_by
reports_of op None = refl
reports_of op (Some c) = refl

values_of : (want : Wanted) → Fair want → (op : Opening) (c : Option Capsule) → delivered want op (optional c) ≡ values_in want (ended_by op c) (payload_by op c)
unfolding optional delivered values_in ended_by payload_by
values_of want f op None = refl
values_of want f op (Some c) = append-nil (want (reported op c) c.value) ∙ sym (f (reported op c) c.value)

module _ (op : Opening) (s p : List ℕ) (n : ℕ) (rs : List Reply) (s' : List ℕ) where
  abbrev t : Taken
  t = append op s p

  abbrev answer : Reply
  answer = fed t.consumed n (gained op s t.stream) (ended_by op t.capsule) (payload_by op t.capsule)

  adds_fed : Adds op t.stream rs s' → Adds op s (answer ∷ rs) s'
  unfolding reports values writes
  adds_fed a =
      let g = capsules_grow op s p in
      record {
        report = a.report
            ∙ ap (λ (l : List Report). l ++ reports rs) (ap (map (reported op)) g ∙ map-append (reported op) (parts_for op s).capsules (optional t.capsule) ∙ ap (λ (l : List Report). map (reported op) (parts_for op s).capsules ++ l) (reports_of op t.capsule))
            ∙ append_assoc (map (reported op) (parts_for op s).capsules) (reports_in (ended_by op t.capsule)) (reports rs);
        payload = λ want f. a.payload want f
            ∙ ap (λ (l : List (List ℕ)). l ++ values want rs) (ap (delivered want op) g ∙ delivered-append want op (parts_for op s).capsules (optional t.capsule) ∙ ap (λ (l : List (List ℕ)). delivered want op (parts_for op s).capsules ++ l) (values_of want f op t.capsule))
            ∙ append_assoc (delivered want op (parts_for op s).capsules) (values_in want (ended_by op t.capsule) (payload_by op t.capsule)) (values want rs);
        write = a.write ∙ ap (λ (l : List ℕ). l ++ writes rs) (writes_grow op s p) ∙ append_assoc (forwarded op s) (gained op s t.stream) (writes rs);
      }

-- ---- any list of calls on any book

abbrev AddsAll : List Call → Book → Type 0
AddsAll cs k = Adds k.opening k.stream (run book_call k cs).1 (run book_call k cs).0.stream

all_adds : (cs : List Call) (k : Book) → AddsAll cs k
unfolding run
all_adds [] k = adds_none k.opening k.stream
all_adds (c ∷ cs) k = go (λ k'. all_adds cs k') (books k c)
  where
    go : ((k' : Book) → AddsAll cs k') → {c : Call} {x : Book × Reply} → Books k c x
        → Adds k.opening k.stream (x.1 ∷ (run book_call x.0 cs).1) (run book_call x.0 cs).0.stream
    go again (refuses_feed why f) = adds_refused k.opening k.stream _ _ why (again k)
    go again (takes_feed {p = p} v) = unfold book_feed in adds_fed k.opening k.stream p _ _ _ (again (book_feed k p (Ok tt)).0)
    go again (refuses_end e) = adds_refused k.opening k.stream _ _ _ (again k)
    go again (closes_book e) = adds_closed k.opening k.stream _ _ _ (again (record { opening = k.opening; stream = k.stream; mark = true }))

nothing_yet : (op : Opening) → forwarded op [] ≡ []
unfolding forwarded from_parts from_capsules from_tail
nothing_yet op = ap (from_parts op) (for_nil op)

pub whole_list : WholeList
unfolding new_book delivered
whole_list op cs =
    let a = all_adds cs (new_book op) in
    let e = for_nil op in
    let rs = (run book_call (new_book op) cs).1 in
    record {
      every_report = sym (a.report ∙ ap (λ (x : Parts). map (reported op) x.capsules ++ reports rs) e);
      every-payload = sym (a.payload if_delivered (λ r v. (fair r v).0) ∙ ap (λ (x : Parts). delivered if_delivered op x.capsules ++ values if_delivered rs) e);
      every-address = sym (a.payload if_address (λ r v. (fair r v).1) ∙ ap (λ (x : Parts). delivered if_address op x.capsules ++ values if_address rs) e);
      every_write = sym (a.write ∙ ap (λ (l : List ℕ). l ++ writes rs) (nothing_yet op));
    }
