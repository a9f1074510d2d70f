-- The listing agrees with the reader, and its header bytes are all bytes but values and tail. Assumes nothing.
use Rattle.walks.proofs.Words.{◌≡◌, refl, ap, ◌∙◌, ℕ, ◌+◌, arith, Bool, false, List, [], ◌∷◌, length, length-append, length-drop}
use Rattle.one_shot_listing.proofs.Terms.{Reader, plain, Capsule, Parts, parts, Reply, close, closed, run, parts_for, Book, book_close, end_of, reader_of, of_book, opening, reader_call, joined, AllRead, consumed_in, split_right, Open, closed_same, open_fresh, made_calls, counted, unfinished_grammar, header_bytes, ending_of, value_bytes, HeadersExactly, AgreesWithReader}
use Rattle.one_shot_listing.proofs.Rounds.{accepted}

same_end : (tail : List ℕ) → end_of tail ≡ ending_of tail
unfolding end_of ending_of
same_end [] = refl
same_end (b ∷ r) = refl

-- a close of the state that a stream made
closes_so : (k : Book) → Open k → k.mark ≡ false → parts_for k.opening k.stream ≡ parts k.stream
    → (reader_call (of_book k) close).1 ≡ closed (ending_of (parts k.stream).tail)
closes_so k o e g = ap (λ (x : Reader × Reply). x.1) (closed_same k o false e) ∙ (unfold book_close in rw (g, same_end))

pub agrees_with_reader : AgreesWithReader
agrees_with_reader role limit draft addresses r e cs h f m =
    let op = opening role limit draft addresses in
    let s = consumed_in cs (run reader_call r cs).1 in
    let k : Book = record { opening = op; stream = s; mark = false } in
    let made = made_calls role limit draft addresses r e cs h in
    let o : Open k = record { accepted = (open_fresh role limit draft addresses r e).0; bytes = made.bytes } in
    let g : parts_for op s ≡ parts s = unfinished_grammar role limit draft addresses r e cs h f in
    let count = counted role limit draft addresses r e cs h ∙ ap (λ (p : Parts). length p.capsules) g in
    let state : (run reader_call r cs).0 ≡ of_book k = unfold of_book in made.is ∙ ap (λ (b : Bool). reader_of op s b) f in
    record {
      ending = ending_of (parts s).tail;
      lists = rw count (accepted s m);
      closes = ap (λ (x : Reader). (reader_call x close).1) state ∙ closes_so k o refl g;
    }

-- ---- header bytes

all_counted : (cs : List Capsule) → AllRead plain cs → header_bytes cs + value_bytes cs ≡ length (joined cs)
unfolding header_bytes value_bytes joined
all_counted [] r = refl
all_counted (c ∷ cs) r =
    let value = ap length r.0.2 ∙ length-drop r.0.0 c.bytes in
    let sized = r.0.3 in
    omega (arith, value, sized, all_counted cs r.1, length-append c.bytes (joined cs))

pub headers_exactly : HeadersExactly
headers_exactly s =
    let x = split_right plain s in
    omega (arith, all_counted (parts s).capsules x.capsules_read, ap length x.nothing_lost, length-append (joined (parts s).capsules) (parts s).tail)
