-- What sets the finished mark, and that nothing comes after it. Assumes nothing.
use Rattle.std.specs.Prelude.{Option, Some, None}
use Rattle.walks.proofs.Words.{◌≡◌, refl, sym, ap, ◌∙◌, subst, ℕ, Bool, true, false, cond, ◌||◌, List, [], ◌∷◌, ◌++◌, map, leb, or-false, or-true}
use Rattle.capsule_laws.proofs.Terms.{finished, Opening, Role, Kind, Datagram, Address, Unknown, Report, AddressDelivered, Malformed, Capsule, longest_address_value, kind_of, extent_by, extent_of, report_by, report_of, judged, finishes, Call, feed, close, Reply, refused, fed, closed, run, finishes_in, parts_for, reported, Book, new_book, book_verdict, book_feed, book_close, book_call, reports_in, reports, Short, AllShort, marks_in, any_marks, AllFinished, NothingAfter, MarkedExactly, NoneFinish, GrammarUnlessMalformed, UnmarkedGrammar, no_true}
use mathlib.Core.Bool.{or_assoc}
use Rattle.capsule_laws.proofs.{Graphs.Books, Graphs.refuses_feed, Graphs.takes_feed, Graphs.refuses_end, Graphs.closes_book, Graphs.books, Orders.whole_list, Plain.read_plain}

pub call_mark : (k : Book) (c : Call) → (book_call k c).0.mark ≡ k.mark || marks_in (book_call k c).1
call_mark k c = go (books k c)
  where
    go : {c : Call} {x : Book × Reply} → Books k c x → x.0.mark ≡ k.mark || marks_in x.1
    go (refuses_feed why f) = unfold marks_in in sym (or-false k.mark)
    go (takes_feed v) = unfold book_feed marks_in in refl
    go (refuses_end e) = unfold marks_in in sym (or-false k.mark)
    go (closes_book e) = unfold marks_in in rw e

marks : (k : Book) (cs : List Call) → (run book_call k cs).0.mark ≡ k.mark || any_marks (run book_call k cs).1
unfolding run any_marks
marks k [] = sym (or-false k.mark)
marks k (c ∷ cs) =
    let x = book_call k c in
    marks x.0 cs ∙ ap (λ (m : Bool). m || any_marks (run book_call x.0 cs).1) (call_mark k c) ∙ or_assoc k.mark (marks_in x.1) (any_marks (run book_call x.0 cs).1)

marked_call : (k : Book) (c : Call) → k.mark ≡ true → ◌≡◌ {A = Book × Reply} (book_call k c) (k, refused finished)
unfolding book_call book_verdict book_feed book_close
marked_call k (feed p b) e = rw e
marked_call k close e = rw e

marked_all : (k : Book) (cs : List Call) → k.mark ≡ true → AllFinished (run book_call k cs).1
unfolding run
marked_all k [] e = tt
marked_all k (c ∷ cs) e =
    let x = marked_call k c e in
    (ap (λ (y : Book × Reply). y.1) x, subst (λ (y : Book × Reply). AllFinished (run book_call y.0 cs).1) (sym x) (marked_all k cs e))

after : (k : Book) (cs : List Call) → NothingAfter (run book_call k cs).1
unfolding run
after k [] = tt
after k (c ∷ cs) = (λ e. marked_all (book_call k c).0 cs (call_mark k c ∙ rw e (or-true k.mark)), after (book_call k c).0 cs)

pub marked_exactly : MarkedExactly
unfolding new_book
marked_exactly op cs = record { exactly = marks (new_book op) cs; nothing-after = after (new_book op) cs }

-- ---- the stream of a book that has reported no malformed capsule

short_by : (op : Opening) (t n : ℕ) (v : List ℕ) (k : Kind) (r : Role) → finishes (judged (report_by r op.limit k t n) v) ≡ false → extent_by k n ≡ n
unfolding extent_by report_by
short_by op t n v Datagram r e = refl
short_by op t n v Unknown r e = refl
short_by op t n v Address r e = go (leb n longest_address_value) e
  where
    go : (b : Bool) → finishes (judged (cond b (AddressDelivered t n) (Malformed t n)) v) ≡ false → cond b n 0 ≡ n
    go true f = refl
    go false f = no_true (sym (unfold judged finishes in f))

pub short_report : (op : Opening) (t n : ℕ) (v : List ℕ) → finishes (judged (report_of op t n) v) ≡ false → Short op t n
unfolding report_of extent_of
short_report op t n v e = short_by op t n v (kind_of op t) op.role e

all_short : (op : Opening) (cs : List Capsule) → NoneFinish (map (reported op) cs) → AllShort op cs
unfolding reported
all_short op [] h = tt
all_short op (c ∷ cs) h = (short_report op c.ctype c.size c.value h.0, all_short op cs h.1)

pub grammar_unless_malformed : GrammarUnlessMalformed
grammar_unless_malformed op cs h =
    read_plain op (run book_call (new_book op) cs).0.stream (all_short op (parts_for op (run book_call (new_book op) cs).0.stream).capsules (subst NoneFinish (whole_list op cs).every_report h))

or_left : (a b : Bool) → a || b ≡ false → (a ≡ false) × (b ≡ false)
or_left true b e = no_true (sym e)
or_left false b e = (refl, e)

none_ended : (e : Option Report) (rs : List Report) → finishes_in e ≡ false → NoneFinish rs → NoneFinish (reports_in e ++ rs)
unfolding reports_in finishes_in
none_ended None rs f h = h
none_ended (Some r) rs f h = (f, h)

none_finish : (rs : List Reply) → any_marks rs ≡ false → NoneFinish (reports rs)
unfolding reports any_marks marks_in
none_finish [] e = tt
none_finish (refused r ∷ rs) e = none_finish rs e
none_finish (fed c n w x payload ∷ rs) e = let q = or_left (finishes_in x) (any_marks rs) e in none_ended x (reports rs) q.0 (none_finish rs q.1)
none_finish (closed c ∷ rs) e = no_true (sym e)

pub unmarked_grammar : UnmarkedGrammar
unmarked_grammar op cs e = grammar_unless_malformed op cs (none_finish (run book_call (new_book op) cs).1 (sym (marked_exactly op cs).exactly ∙ e))

-- ---- the opening

-- the opening stays what it was
pub call_opening : (k : Book) (c : Call) → (book_call k c).0.opening ≡ k.opening
call_opening k c = go (books k c)
  where
    go : {c : Call} {x : Book × Reply} → Books k c x → x.0.opening ≡ k.opening
    go (refuses_feed why f) = refl
    go (takes_feed v) = unfold book_feed in refl
    go (refuses_end e) = refl
    go (closes_book e) = refl
