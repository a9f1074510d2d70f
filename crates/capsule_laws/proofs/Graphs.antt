-- The graphs of a report, of a verdict, and of one call on a reader and on the book: every outcome with what it rests on. Assumes nothing.
use Rattle.std.specs.Prelude.{Result, Ok, Err}
use Rattle.walks.proofs.Words.{◌≡◌, refl, sym, ◌∙◌, subst, ℕ, ◌+◌, ◌≤◌, ◌<◌, arith, Bool, true, false, cond, ◌&&◌, List, length, leb, le-leb, lt-leb}
use Rattle.capsule_laws.proofs.Terms.{Refusal, unmakeable_state, finished, gathering_too_short, addresses_too_short, output_too_short, split, longest_address_value, well_formed, Role, Endpoint, Intermediary, Kind, Datagram, Address, Unknown, Opening, Report, Delivered, Dropped, Skipped, Passed, AddressDelivered, Malformed, opted, kind_of, report_by, report_of, judged, Phase, Reader, Closed, Lent, Call, feed, close, Reply, refused, closed, output_verdict, addresses_verdict, lent_verdict, parts_for, Book, book_verdict, book_feed, end_of, book_close, book_call, is_makeable, verdict_of, take_of, feed_by, feed_of, end_at, closing, close_of, feed_reply, close_reply, reader_call, zero_one, no_true, accepted_makeable, gathering-short, addresses-short}

-- ---- what an ended capsule of type t, length n and value v reports

pub data Reports (op : Opening) (t n : ℕ) (v : List ℕ) : Report → Type 0 where
  delivered : kind_of op t ≡ Datagram → n ≤ op.limit → Reports op t n v (Delivered n)
  dropped : kind_of op t ≡ Datagram → op.limit < n → Reports op t n v (Dropped n)
  skipped : kind_of op t ≡ Unknown → op.role ≡ Endpoint → Reports op t n v (Skipped t n)
  passed : kind_of op t ≡ Unknown → op.role ≡ Intermediary → Reports op t n v (Passed t n)
  address : kind_of op t ≡ Address → leb n longest_address_value && well_formed t v ≡ true → Reports op t n v (AddressDelivered t n)
  malformed : kind_of op t ≡ Address → leb n longest_address_value && well_formed t v ≡ false → Reports op t n v (Malformed t n)

address-judged : (op : Opening) (t n : ℕ) (v : List ℕ) → kind_of op t ≡ Address → judged (report_of op t n) v ≡ cond (leb n longest_address_value && well_formed t v) (AddressDelivered t n) (Malformed t n)
unfolding report_of report_by
address-judged op t n v k = rw k (go (leb n longest_address_value))
  where
    go : (b : Bool) → judged (cond b (AddressDelivered t n) (Malformed t n)) v ≡ cond (b && well_formed t v) (AddressDelivered t n) (Malformed t n)
    go true = unfold judged in refl
    go false = unfold judged in refl

pub report_is : {op : Opening} {t n : ℕ} {v : List ℕ} {r : Report} → Reports op t n v r → judged (report_of op t n) v ≡ r
unfolding report_of report_by judged
report_is {op} {t} {n} (delivered k h) = rw (k, le-leb n op.limit h)
report_is {op} {t} {n} (dropped k h) = rw (k, lt-leb n op.limit h)
report_is (skipped k e) = rw (k, e)
report_is (passed k e) = rw (k, e)
report_is {op} {t} {n} {v} (address k e) = address-judged op t n v k ∙ rw e
report_is {op} {t} {n} {v} (malformed k e) = address-judged op t n v k ∙ rw e

pub reports_of : (op : Opening) (t n : ℕ) (v : List ℕ) → Reports op t n v (judged (report_of op t n) v)
reports_of op t n v = go (kind_of op t) refl
  where
    is : {r : Report} → Reports op t n v r → Reports op t n v (judged (report_of op t n) v)
    is x = rw (report_is x) x

    unknown : kind_of op t ≡ Unknown → (r : Role) → op.role ≡ r → Reports op t n v (judged (report_of op t n) v)
    unknown k Endpoint e = is (skipped k e)
    unknown k Intermediary e = is (passed k e)

    judged_by : kind_of op t ≡ Address → (b : Bool) → leb n longest_address_value && well_formed t v ≡ b → Reports op t n v (judged (report_of op t n) v)
    judged_by k true e = is (address k e)
    judged_by k false e = is (malformed k e)

    go : (k : Kind) → kind_of op t ≡ k → Reports op t n v (judged (report_of op t n) v)
    go Datagram k = split n op.limit (λ h. is (delivered k h)) (λ h. is (dropped k h))
    go Address k = judged_by k (leb n longest_address_value && well_formed t v) refl
    go Unknown k = unknown k op.role refl

-- ---- the verdict on what is lent

pub data Lends (op : Opening) (piece gathering addresses output : ℕ) : (Result (Unit {0}) Refusal) → Type 0 where
  short_gathering : gathering < op.limit → Lends op piece gathering addresses output (Err gathering_too_short)
  short_addresses : op.limit ≤ gathering → opted op ≡ true → addresses < longest_address_value → Lends op piece gathering addresses output (Err addresses_too_short)
  short_output : Lends op piece gathering addresses output (Err output_too_short)
  enough : Lends op piece gathering addresses output (Ok tt)

pub lends : (op : Opening) (piece gathering addresses output : ℕ) → Lends op piece gathering addresses output (lent_verdict op piece gathering addresses output)
lends op piece g a o = split op.limit g (λ h. by_addresses h (opted op) refl) (λ h. rw (← (gathering-short op piece g a o h)) (short_gathering h))
  where
    room : (t : Bool) → Lends op piece g a o (cond t (Ok tt) (Err output_too_short))
    room true = enough
    room false = short_output

    by_output : (r : Role) → Lends op piece g a o (output_verdict r piece o)
    by_output Endpoint = unfold output_verdict in enough
    by_output Intermediary = unfold output_verdict in room (leb (piece + 8) o)

    by_addresses : op.limit ≤ g → (b : Bool) → opted op ≡ b → Lends op piece g a o (lent_verdict op piece g a o)
    by_addresses h true e = split longest_address_value a
        (λ l. unfold lent_verdict addresses_verdict in rw (le-leb op.limit g h, e, le-leb longest_address_value a l) (by_output op.role))
        (λ l. rw (← (addresses-short op piece g a o h e l)) (short_addresses h e l))
    by_addresses h false e = unfold lent_verdict addresses_verdict in rw (le-leb op.limit g h, e) (by_output op.role)

-- a refusal other than 1
abbrev pub Fine : (Result (Unit {0}) Refusal) → Type 0
Fine (Ok tt) = Unit {0}
Fine (Err r) = r.0 ≡ 1 → ⊥

lent_fine : {op : Opening} {piece gathering addresses output : ℕ} {v : (Result (Unit {0}) Refusal)} → Lends op piece gathering addresses output v → Fine v
lent_fine (short_gathering h) = λ z. omega arith
lent_fine (short_addresses h o l) = λ z. omega arith
lent_fine short_output = λ z. omega arith
lent_fine enough = tt

-- behind the mark, of a book or of a reader
marked_fine : (m : Bool) (op : Opening) (piece gathering addresses output : ℕ) → Fine (cond m (Err finished) (lent_verdict op piece gathering addresses output))
marked_fine true op piece g a o = λ z. omega arith
marked_fine false op piece g a o = lent_fine (lends op piece g a o)

pub unmarked : (m : Bool) (v : (Result (Unit {0}) Refusal)) → cond m (Err finished) v ≡ (Ok tt) → m ≡ false
unmarked true v e = zero_one (cc)
unmarked false v e = refl

-- ---- one call on a reader

abbrev pub verdict_on : Reader → List ℕ → Lent → Result (Unit {0}) Refusal
verdict_on r p b = verdict_of r (length p) (length b.gathering) (length b.addresses) (length b.output)

pub data Calls (r : Reader) : Call → Reader × Reply → Type 0 where
  refuses_piece : {p : List ℕ} {b : Lent} (why : Refusal) → (is_makeable r ≡ true → why.0 ≡ 1 → ⊥) → Calls r (feed p b) (r, refused why)
  takes_piece : {p : List ℕ} {b : Lent} → verdict_on r p b ≡ (Ok tt) → r.finished ≡ false → Calls r (feed p b) ((take_of r p b).reader, feed_reply (take_of r p b).answer (take_of r p b).buffers)
  refuses_close : (why : Refusal) → (is_makeable r ≡ true → why.0 ≡ 1 → ⊥) → Calls r close (r, refused why)
  closes : Calls r close (record { opening = r.opening; phase = r.phase; finished = true }, closed (end_at r.phase))

pub close_reply_lem : (x : Phase) → close_reply (Ok (end_at x)) ≡ closed (end_at x)
unfolding close_reply
close_reply_lem x = refl

live : (r : Reader) (piece gathering addresses output : ℕ) → verdict_of r piece gathering addresses output ≡ (Ok tt) → r.finished ≡ false
unfolding verdict_of
live r piece g a o e = unmarked r.finished _ (rw (accepted_makeable r piece g a o e) at e)

pub calls : (r : Reader) (c : Call) → Calls r c (reader_call r c)
calls r (feed p b) = unfold reader_call feed_of in go (verdict_on r p b) refl
  where
    fine : (v : (Result (Unit {0}) Refusal)) → verdict_on r p b ≡ v → is_makeable r ≡ true → Fine v
    fine v e m = subst Fine e (unfold verdict_of in rw m (marked_fine r.finished r.opening _ _ _ _))

    go : (v : (Result (Unit {0}) Refusal)) → verdict_on r p b ≡ v → Calls r (feed p b) ((feed_by r p b v).reader, feed_reply (feed_by r p b v).answer (feed_by r p b v).buffers)
    go (Err why) e = unfold feed_by feed_reply in refuses_piece why (fine (Err why) e)
    go (Ok tt) e = unfold feed_by in takes_piece e (live r _ _ _ _ e)
calls r close = unfold reader_call close_of in go (is_makeable r) refl r.finished
  where
    after : Bool → Bool → Closed
    after m f = cond m (cond f (closing r (Err finished)) (closing (record { opening = r.opening; phase = r.phase; finished = true }) (Ok (end_at r.phase)))) (closing r (Err unmakeable_state))

    go : (m : Bool) → is_makeable r ≡ m → (f : Bool) → Calls r close ((after m f).reader, close_reply (after m f).answer)
    go true m true = unfold close_reply in refuses_close finished (λ h z. omega arith)
    go true m false = rw (close_reply_lem r.phase) closes
    go false m f = unfold close_reply in refuses_close unmakeable_state (λ h z. no_true (sym m ∙ h))

-- ---- one call on the book

pub data Books (k : Book) : Call → Book × Reply → Type 0 where
  refuses_feed : {p : List ℕ} {b : Lent} (why : Refusal) → (why.0 ≡ 1 → ⊥) → Books k (feed p b) (k, refused why)
  takes_feed : {p : List ℕ} {b : Lent} → book_verdict k p b ≡ (Ok tt) → Books k (feed p b) (book_feed k p (Ok tt))
  refuses_end : k.mark ≡ true → Books k close (k, refused finished)
  closes_book : k.mark ≡ false → Books k close (record { opening = k.opening; stream = k.stream; mark = true }, closed (end_of (parts_for k.opening k.stream).tail))

pub books : (k : Book) (c : Call) → Books k c (book_call k c)
books k (feed p b) = unfold book_call in go (book_verdict k p b) refl
  where
    go : (v : (Result (Unit {0}) Refusal)) → book_verdict k p b ≡ v → Books k (feed p b) (book_feed k p v)
    go (Err why) e = unfold book_feed in refuses_feed why (subst Fine e (unfold book_verdict in marked_fine k.mark k.opening _ _ _ _))
    go (Ok tt) e = takes_feed e
books k close = unfold book_call in go k.mark refl
  where
    go : (m : Bool) → k.mark ≡ m → Books k close (book_close k m)
    go true e = unfold book_close in refuses_end e
    go false e = unfold book_close in closes_book e
