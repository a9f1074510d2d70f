-- From an opening refusal 1 cannot arise, whatever is lent; and gathered value bytes stand at their places. Assumes nothing.
use Rattle.std.specs.Prelude.{Ok, Err}
use Rattle.capsule_laws.proofs.Terms.{Refusal, unmakeable_state, finished, Reader, Reply, Call, close, refused, run, new_book, Book, book_feed, book_call, of_book, opening, is_makeable, fed_by, take_of, feed_by, feed_reply, close_reply, reader_call, zero_one, NeverUnmakeable, AllBytes, NoneIs, OpenedAsNamed, RefusedCloseUnchanged, ReaderNeverUnmakeable, StandsAfter, HandedOnStands}
use Rattle.walks.proofs.Words.{◌≡◌, ap, refl, ◌∙◌, true, List, [], ◌∷◌, arith}
use Rattle.capsule_laws.proofs.{Lists.Open, Lists.open_fresh, Lists.fresh_book, Lists.verdict_same, Lists.taken-stands, Lists.left_by_lem, Lists.book_by, Lists.handed_well, Makeable.call_makeable, Makeable.opened_makeable, Graphs.Calls, Graphs.refuses_piece, Graphs.takes_piece, Graphs.refuses_close, Graphs.closes, Graphs.calls, Graphs.Books, Graphs.refuses_feed, Graphs.takes_feed, Graphs.refuses_end, Graphs.closes_book, Graphs.books}

-- ---- refusal 1

other : (r : Refusal) → (r.0 ≡ 1 → ⊥) → refused r ≡ refused unmakeable_state → ⊥
other r h e = let d : r ≡ unmakeable_state = cc in h (ap (λ (x : Refusal). x.0) d)

book_fine : (k : Book) (cs : List Call) → NoneIs unmakeable_state (run book_call k cs).1
unfolding run
book_fine k [] = tt
book_fine k (c ∷ cs) = (go (books k c), book_fine (book_call k c).0 cs)
  where
    go : {c : Call} {x : Book × Reply} → Books k c x → x.1 ≡ refused unmakeable_state → ⊥
    go (refuses_feed why f) e = other why f e
    go (takes_feed v) e = zero_one (unfold book_feed in cc)
    go (refuses_end m) e = other finished (λ z. omega arith) e
    go (closes_book m) e = zero_one (cc)

pub never_unmakeable : NeverUnmakeable
never_unmakeable op cs = book_fine (new_book op) cs

all_fine : (r : Reader) (cs : List Call) → AllBytes cs → is_makeable r ≡ true → NoneIs unmakeable_state (run reader_call r cs).1
unfolding run
all_fine r [] h m = tt
all_fine r (c ∷ cs) h m = (go (calls r c), all_fine (reader_call r c).0 cs h.1 (call_makeable r c h.0 m))
  where
    go : {c : Call} {x : Reader × Reply} → Calls r c x → x.1 ≡ refused unmakeable_state → ⊥
    go (refuses_piece why f) e = other why (f m) e
    go (takes_piece v f) e = zero_one (unfold take_of fed_by feed_reply in cc)
    go (refuses_close why f) e = other why (f m) e
    go closes e = zero_one (cc)

pub reader_never_unmakeable : ReaderNeverUnmakeable
reader_never_unmakeable role limit draft addresses r e cs h = all_fine r cs h (opened_makeable role limit draft addresses r e)

-- ---- gathered value bytes

pub stands_after : StandsAfter
stands_after k p b a w h v s =
    let o : Open k = record { accepted = a; bytes = w } in
    rw (book_by k p b (Ok tt) v, left_by_lem k p b (Ok tt) (verdict_same k p b o ∙ v)) (unfold feed_by in taken-stands k p b o h v s)

pub handed_on_stands : HandedOnStands
handed_on_stands = handed_well

-- ---- opening and closing

pub opened_as_named : OpenedAsNamed
unfolding of_book new_book
opened_as_named role limit draft addresses r e =
    let f = open_fresh role limit draft addresses r e in
    rw f.1 (record { same_role = refl; same_limit = refl; same_draft = refl; same_addresses = refl; nothing_came = fresh_book (opening role limit draft addresses) })

pub refused-close_unchanged : RefusedCloseUnchanged
unfolding reader_call
refused-close_unchanged r why e = go (calls r close) (ap close_reply e)
  where
    go : {x : Reader × Reply} → Calls r close x → x.1 ≡ close_reply (Err why) → x.0 ≡ r
    go (refuses_close w f) d = refl
    go closes d = zero_one (unfold close_reply in cc)
