-- What a feeding consumes, by `outcome` of Appending; how a close finds the stream; the length that a report tells. Assumes nothing.
use Rattle.std.specs.Prelude.{Option, Result, Ok, Err}
use Rattle.opening.specs.declared.Report.{Report}
use Rattle.refusals.specs.declared.Refusal.{Refusal}
use Rattle.walks.proofs.Words.{inl, inr, append-nil, append_assoc, ◌≡◌, refl, sym, ap, ◌∙◌, subst, ℕ, arith, List, [], ◌∷◌, ◌++◌, length, take, take_all}
use Rattle.capsule_laws.proofs.Terms.{in_type, Capsule, Parts, parts_for, Taken, append, ended_by, end_of, Book, new_book, book_verdict, book_feed, book_close, book_call, Call, Reply, fed, closed, run, consumed_by, consumed_in, length_of, Opening, zero_one, Consumes, ConsumedExactly, EndExactly, UpTo, FedExactly, StreamConsumed, ClosesExactly, LengthTold}
use Rattle.capsule_laws.proofs.{Graphs.Books, Graphs.refuses_feed, Graphs.takes_feed, Graphs.refuses_end, Graphs.closes_book, Graphs.books, Appending.one, Appending.Outcome, Appending.goes, Appending.ends, Appending.outcome, Appending.parts_goes, Appending.parts-ends}

by_outcome : (op : Opening) (s p : List ℕ) (k : Taken) → Outcome op s p k → Consumes op s p k
by_outcome op s p k (goes y v e) = rw e (record {
  stream = ap (λ (l : List ℕ). s ++ l) (sym (take_all (length p) p (omega arith)));
  within = omega arith;
  all = λ x. (refl, ap (λ (z : Parts). z.capsules) (parts_goes op s p y v));
  first = λ c x. zero_one (cc x);
})
by_outcome op s p k (ends t n j c v l f g e) = rw e (record {
  stream = refl;
  within = g;
  all = λ x. zero_one (cc x);
  first = λ d x. (f, parts-ends op s (take c p) t n j v l ∙ ap (λ (z : Capsule). record { capsules = (parts_for op s).capsules ++ (z ∷ []); tail = []; stage = in_type }) (cc x));
})

pub consumed_exactly : ConsumedExactly
consumed_exactly op s p = by_outcome op s p (append op s p) (outcome op p s)

pub end_exactly : EndExactly
unfolding end_of
end_exactly [] = ((λ e. refl, λ e. refl), (λ e. zero_one (cc e), λ n. absurd (n refl)))
end_exactly (b ∷ r) = ((λ e. zero_one (cc e), λ e. zero_one (cc e)), (λ e h. zero_one (cc h), λ n. refl))

-- ---- the book's own calls

module _ (op : Opening) (s p : List ℕ) (consumed : ℕ) (e : Option Report) where
  up_to : (k : Taken) → k.consumed ≡ consumed → ended_by op k.capsule ≡ e → Outcome op s p k → UpTo op s p consumed e
  unfolding ended_by
  up_to k a x (goes y v g) =
      inl (sym x ∙ ap (λ (t : Taken). ended_by op t.capsule) g, sym a ∙ ap (λ (t : Taken). t.consumed) g, ap (λ (z : Parts). z.capsules) (parts_goes op s p y v))
  up_to k a x (ends t n j c v l f h g) =
      let i : c ≡ consumed = sym (ap (λ (z : Taken). z.consumed) g) ∙ a in
      let o = one t n j ((parts_for op s).tail ++ take c p) in
      inr (
        o,
        sym x ∙ ap (λ (z : Taken). ended_by op z.capsule) g,
        rw (← i) h,
        subst (λ (m : ℕ). parts_for op (s ++ take m p) ≡ record { capsules = (parts_for op s).capsules ++ (o ∷ []); tail = []; stage = in_type }) i (parts-ends op s (take c p) t n j v l),
      )

pub fed_exactly : FedExactly
unfolding book_call
fed_exactly k p b consumed written w e payload q = go (book_verdict k p b) q
  where
    go : (v : (Result (Unit {0}) Refusal)) → (book_feed k p v).1 ≡ fed consumed written w e payload → UpTo k.opening k.stream p consumed e
    go (Err r) d = zero_one (unfold book_feed in cc)
    go (Ok tt) d =
        let a : (append k.opening k.stream p).consumed ≡ consumed = unfold book_feed in cc in
        let x : ended_by k.opening (append k.opening k.stream p).capsule ≡ e = unfold book_feed in cc in
        up_to k.opening k.stream p consumed e (append k.opening k.stream p) a x (outcome k.opening p k.stream)

one_on : (k : Book) (c : Call) → (book_call k c).0.stream ≡ k.stream ++ consumed_by c (book_call k c).1
one_on k c = go (books k c)
  where
    go : {c : Call} {x : Book × Reply} → Books k c x → x.0.stream ≡ k.stream ++ consumed_by c x.1
    go (refuses_feed why f) = unfold consumed_by in sym (append-nil k.stream)
    go (takes_feed {p = p} v) = unfold book_feed consumed_by in (consumed_exactly k.opening k.stream p).stream
    go (refuses_end e) = unfold consumed_by in sym (append-nil k.stream)
    go (closes_book e) = unfold consumed_by in sym (append-nil k.stream)

all_on : (k : Book) (cs : List Call) → (run book_call k cs).0.stream ≡ k.stream ++ consumed_in cs (run book_call k cs).1
unfolding run consumed_in
all_on k [] = sym (append-nil k.stream)
all_on k (c ∷ cs) =
    all_on (book_call k c).0 cs
    ∙ ap (λ (l : List ℕ). l ++ consumed_in cs (run book_call (book_call k c).0 cs).1) (one_on k c)
    ∙ append_assoc k.stream (consumed_by c (book_call k c).1) (consumed_in cs (run book_call (book_call k c).0 cs).1)

pub stream_consumed : StreamConsumed
unfolding new_book
stream_consumed op cs = all_on (new_book op) cs

pub closes_exactly : ClosesExactly
unfolding book_call book_close
closes_exactly k e = (λ h. rw e (ap closed ((end_exactly (parts_for k.opening k.stream).tail).0.1 h)), λ h. rw e (ap closed ((end_exactly (parts_for k.opening k.stream).tail).1.1 h)))

pub length_told : LengthTold
unfolding length_of
length_told t n = (refl, refl, refl, refl, refl, refl)
