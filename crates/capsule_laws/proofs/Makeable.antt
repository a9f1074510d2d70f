-- Which states opening, feeding and closing make, and what follows for every state. Assumes nothing.
use Rattle.std.specs.Prelude.{Result, Ok, Err}
use Rattle.refusals.specs.declared.Refusal.{Refusal}
use Rattle.capsule.specs.declared.reader.Advance.{Advance}
use Rattle.capsule.specs.Reader.{taking}
use Rattle.walks.proofs.Words.{◌≡◌, refl, sym, ap, ◌∙◌, subst, ℕ, ◌+◌, ◌≤◌, ◌<◌, arith, Bool, true, false, List, [], ◌∷◌, ◌++◌, length}
use Rattle.capsule_laws.proofs.Terms.{ok_same, Bytes, both, Role, Endpoint, Intermediary, Opening, Phase, Reader, Stage, part, Parts, longest_address_value, opted, keeps, Lent, lent, Call, feed, close, Reply, run, finishes_in, lent_verdict, parts_for, Taken, append, ended_by, Book, new_book, book_verdict, book_feed, book_close, book_call, phase_of, reader_of, of_book, opening, fresh, is_opening, open_of, is_makeable, verdict_of, fed_by, take_of, feed_by, feed_of, reader_call, is_makeable_phase, plan_of, StandsAt, StandsBy, AddressesWell, CallBytes, AllBytes, Makes, MakeableExactly, StaysMakeable, RefusedUnchanged, Progress, StateOfBook, StateOfPlainBook, zero_one, Accepts, accepts, accepted_makeable, endpoint-lent, output-lent}
use Rattle.capsule_laws.proofs.{Appending.Shows, Appending.for_nil, Appending.append_goes, Graphs.Calls, Graphs.refuses_piece, Graphs.takes_piece, Graphs.refuses_close, Graphs.closes, Graphs.calls, Origins.zeros, Origins.zeros-length, Origins.Written, Origins.written, Origins.planned_by, Origins.planned, Marks.call_opening, Lists.Open, Lists.made-stream, Lists.made_book, Lists.verdict_same, Lists.unmarked, Lists.left_by_lem, Lists.book_by, Lists.open_fresh, Lists.fresh_book, Lists.fresh_open, Lists.none_kept, Lists.one-close}

-- ---- a feeding and a clean close leave no state that cannot be made

makeable_by : (r : Reader) → is_opening r.opening ≡ true → is_makeable_phase r.opening r.phase ≡ true → is_makeable r ≡ true
unfolding is_makeable
makeable_by r a b = both (is_opening r.opening) (is_makeable_phase r.opening r.phase) a b

phase-is : (r : Reader) (w : Written r) → phase_of r.opening (parts_for r.opening w.stream) ≡ r.phase
unfolding reader_of
phase-is r w = ap (λ (x : Reader). x.phase) w.is

take_makeable : (r : Reader) (p : List ℕ) (b : Lent) → Bytes p → is_makeable r ≡ true → is_makeable (take_of r p b).reader ≡ true
unfolding take_of fed_by
take_makeable r p b h m =
    let w = written r m in
    let op = r.opening in
    let q = (planned op w.stream p w.bytes h).2 in
    let next : (plan_of op p r.phase).next ≡ phase_of op (parts_for op (append op w.stream p).stream) = ap (λ (x : Phase). (plan_of op p x).next) (sym (phase-is r w)) ∙ q.phase in
    makeable_by (take_of r p b).reader w.accepted (subst (λ (x : Phase). is_makeable_phase op x ≡ true) (sym next) (made-stream op (append op w.stream p).stream q.bytes))

pub call_makeable : (r : Reader) (c : Call) → CallBytes c → is_makeable r ≡ true → is_makeable (reader_call r c).0 ≡ true
call_makeable r c h m = go h (calls r c)
  where
    go : {c : Call} {x : Reader × Reply} → CallBytes c → Calls r c x → is_makeable x.0 ≡ true
    go h (refuses_piece why f) = m
    go h (takes_piece {p = p} {b = b} v f) = take_makeable r p b h m
    go h (refuses_close why f) = m
    go h closes = unfold is_makeable in m

pub stays_makeable : StaysMakeable
unfolding reader_call
stays_makeable r p b h m = call_makeable r (feed p b) h m

pub calls_makeable : (r : Reader) (cs : List Call) → AllBytes cs → is_makeable r ≡ true → is_makeable (run reader_call r cs).0 ≡ true
unfolding run
calls_makeable r [] h m = m
calls_makeable r (c ∷ cs) h m = calls_makeable (reader_call r c).0 cs h.1 (call_makeable r c h.0 m)

-- ---- the state after a list of calls, whatever the gathering buffer and the output hold

module _ (k : Book) (o : Open k) where
  state-taken : (p : List ℕ) (b : Lent) → Bytes p → book_verdict k p b ≡ (Ok tt) → StandsBy (keeps k.opening) k b.addresses
      → ((take_of (of_book k) p b).reader ≡ of_book (book_feed k p (Ok tt)).0) × Open (book_feed k p (Ok tt)).0
  unfolding take_of fed_by of_book reader_of book_feed
  state-taken p b h v s =
      let may : Accepts (of_book k) (length p) (length b.gathering) (length b.addresses) (length b.output) = accepts (of_book k) (length p) (length b.gathering) (length b.addresses) (length b.output) (verdict_same k p b o ∙ v) in
      let q = planned_by k.opening k.stream p b.addresses o.bytes h may.keeps s in
      (rw (q.1.ended, q.1.phase, unmarked k p b v), record { accepted = o.accepted; bytes = q.1.bytes })

  state_feed : (p : List ℕ) (b : Lent) → Bytes p → (book_verdict k p b ≡ (Ok tt) → StandsBy (keeps k.opening) k b.addresses)
      → ((reader_call (of_book k) (feed p b)).0 ≡ of_book (book_call k (feed p b)).0) × Open (book_call k (feed p b)).0
  state_feed p b h s = go (book_verdict k p b) refl
    where
      by : (v : (Result (Unit {0}) Refusal)) → book_verdict k p b ≡ v → ((feed_by (of_book k) p b v).reader ≡ of_book (book_feed k p v).0) × Open (book_feed k p v).0
          → ((reader_call (of_book k) (feed p b)).0 ≡ of_book (book_call k (feed p b)).0) × Open (book_call k (feed p b)).0
      by v e f = unfold reader_call in rw (left_by_lem k p b v (verdict_same k p b o ∙ e), book_by k p b v e) f

      go : (v : (Result (Unit {0}) Refusal)) → book_verdict k p b ≡ v → ((reader_call (of_book k) (feed p b)).0 ≡ of_book (book_call k (feed p b)).0) × Open (book_call k (feed p b)).0
      go (Err r) e = by (Err r) e (unfold feed_by book_feed in (refl, o))
      go (Ok tt) e = by (Ok tt) e (unfold feed_by in state-taken p b h e (s e))

pub state_calls : (k : Book) (cs : List Call) → Open k → AllBytes cs → AddressesWell k cs → ((run reader_call (of_book k) cs).0 ≡ of_book (run book_call k cs).0) × Open (run book_call k cs).0
unfolding run
state_calls k [] o h l = (refl, o)
state_calls k (feed p b ∷ cs) o h l =
    let a = state_feed k o p b h.0 l.0 in
    let c = state_calls (book_call k (feed p b)).0 cs a.1 h.1 l.1 in
    (ap (λ (r : Reader). (run reader_call r cs).0) a.0 ∙ c.0, c.1)
state_calls k (close ∷ cs) o h l =
    let a = one-close k o in
    let c = state_calls (book_call k close).0 cs a.stays_open h.1 l in
    (ap (λ (x : Reader × Reply). (run reader_call x.0 cs).0) a.same_answer ∙ c.0, c.1)

pub state_of_book : StateOfBook
state_of_book role limit draft addresses r e cs h l =
    let f = open_fresh role limit draft addresses r e in
    let op = opening role limit draft addresses in
    ap (λ (x : Reader). (run reader_call x cs).0) (f.1 ∙ fresh_book op) ∙ (state_calls (new_book op) cs (fresh_open op f.0) h l).0

plain_well : (k : Book) (cs : List Call) → opted k.opening ≡ false → AddressesWell k cs
unfolding book_call
plain_well k [] e = tt
plain_well k (feed p b ∷ cs) e = (
  λ v. none_kept k.opening (parts_for k.opening k.stream).tail (parts_for k.opening k.stream).stage b.addresses e,
  plain_well (book_call k (feed p b)).0 cs (ap opted (call_opening k (feed p b)) ∙ e),
)
plain_well k (close ∷ cs) e = plain_well (book_call k close).0 cs (ap opted (call_opening k close) ∙ e)

pub state_of_plain_book : StateOfPlainBook
state_of_plain_book role limit draft addresses r e f cs h =
    state_of_book role limit draft addresses r e cs h (plain_well (new_book (opening role limit draft addresses)) cs (unfold new_book in f))

-- ---- refusal 1 exactly

-- one piece, and a clean close where the state is finished
closing_calls : Bool → List Call
closing_calls true = close ∷ []
closing_calls false = []

module _ (op : Opening) (s : List ℕ) (x : Stage) (v : Shows op s (part x)) (w : Bytes s) (a : is_opening op ≡ true) where
  buffers : Lent
  buffers = lent (zeros op.limit) (zeros longest_address_value) (zeros (length s + 8))

  enough : book_verdict (new_book op) s buffers ≡ (Ok tt)
  unfolding book_verdict new_book buffers
  enough = go op.role refl
    where
      g : op.limit ≤ length (zeros op.limit)
      g = omega (arith, zeros-length op.limit)

      go : (r : Role) → op.role ≡ r → lent_verdict op (length s) (length (zeros op.limit)) (length (zeros longest_address_value)) (length (zeros (length s + 8))) ≡ (Ok tt)
      go Endpoint e = sym (endpoint-lent op (length s) (length (zeros op.limit)) (length (zeros longest_address_value)) (length (zeros (length s + 8))) g e (λ o. omega (arith, zeros-length longest_address_value)))
      go Intermediary e = sym (output-lent op (length s) (length (zeros op.limit)) (length (zeros longest_address_value)) (length (zeros (length s + 8))) g e (omega (arith, zeros-length (length s + 8))))

  -- the book after the piece has just its bytes
  after-piece : (book_call (new_book op) (feed s buffers)).0 ≡ record { opening = op; stream = s; mark = false }
  unfolding new_book book_feed ended_by finishes_in
  after-piece =
      let t : Shows op ((parts_for op []).tail ++ s) (part x) = subst (λ (l : Parts). Shows op (l.tail ++ s) (part x)) (sym (for_nil op)) v in
      ap (λ (y : Book × Reply). y.0) (book_by (new_book op) s buffers (Ok tt) enough)
      ∙ ap (λ (y : Taken). record { opening = op; stream = y.stream; mark = finishes_in (ended_by op y.capsule) }) (append_goes op [] s x t)

  marked : (m : Bool) → (run book_call (record { opening = op; stream = s; mark = false }) (closing_calls m)).0 ≡ record { opening = op; stream = s; mark = m }
  unfolding run closing_calls book_call book_close
  marked true = refl
  marked false = refl

  all-bytes : (m : Bool) → AllBytes (feed s buffers ∷ closing_calls m)
  unfolding closing_calls
  all-bytes true = (w, (tt, tt))
  all-bytes false = (w, tt)

  ran : (m : Bool) → (run book_call (new_book op) (feed s buffers ∷ closing_calls m)).0 ≡ record { opening = op; stream = s; mark = m }
  unfolding run
  ran m = ap (λ (k : Book). (run book_call k (closing_calls m)).0) after-piece ∙ marked m

  nothing-before : StandsAt (keeps op) (parts_for op []).tail (parts_for op []).stage (zeros longest_address_value)
  nothing-before = subst (λ (x : Parts). StandsAt (keeps op) x.tail x.stage (zeros longest_address_value)) (sym (for_nil op)) tt

  -- nothing was gathered before the first piece, and after it nothing is fed
  well : (m : Bool) → AddressesWell (new_book op) (feed s buffers ∷ closing_calls m)
  unfolding closing_calls new_book buffers
  well true = (λ v. nothing-before, tt)
  well false = (λ v. nothing-before, tt)

  runs : (m : Bool) → (run reader_call (fresh op) (feed s buffers ∷ closing_calls m)).0 ≡ reader_of op s m
  unfolding of_book
  runs m =
      ap (λ (r : Reader). (run reader_call r (feed s buffers ∷ closing_calls m)).0) (fresh_book op)
      ∙ (state_calls (new_book op) (feed s buffers ∷ closing_calls m) (fresh_open op a) (all-bytes m) (well m)).0
      ∙ ap of_book (ran m)

opens : (op : Opening) → is_opening op ≡ true → open_of op.role op.limit op.draft op.addresses ≡ Ok (fresh op)
unfolding open_of
opens op e = rw e

made : (r : Reader) → is_makeable r ≡ true → Makes r
made r e =
    let w = written r e in
    record {
      role = r.opening.role;
      limit = r.opening.limit;
      draft = r.opening.draft;
      addresses = r.opening.addresses;
      start = fresh r.opening;
      opens = opens r.opening w.accepted;
      calls = feed w.stream (buffers r.opening w.stream w.stage w.seen w.bytes w.accepted) ∷ closing_calls r.finished;
      bytes = all-bytes r.opening w.stream w.stage w.seen w.bytes w.accepted r.finished;
      makes = runs r.opening w.stream w.stage w.seen w.bytes w.accepted r.finished ∙ w.is;
    }

pub opened_makeable : (role : Role) (limit : ℕ) (draft addresses : Bool) (r : Reader) → open_of role limit draft addresses ≡ Ok r → is_makeable r ≡ true
opened_makeable role limit draft addresses r e =
    let f = open_fresh role limit draft addresses r e in
    let op = opening role limit draft addresses in
    subst (λ (x : Reader). is_makeable x ≡ true) (sym (f.1 ∙ fresh_book op)) (made_book (new_book op) (fresh_open op f.0))

-- any calls with any buffers
makeable : (r : Reader) → Makes r → is_makeable r ≡ true
makeable r m =
    let s = opened_makeable m.role m.limit m.draft m.addresses m.start m.opens in
    subst (λ (x : Reader). is_makeable x ≡ true) m.makes (calls_makeable m.start m.calls m.bytes s)

pub makeable_exactly : MakeableExactly
makeable_exactly r = (made r, makeable r)

-- ---- of every state

pub refused_unchanged : RefusedUnchanged
unfolding feed_of
refused_unchanged r p b why e = go (verdict_of r (length p) (length b.gathering) (length b.addresses) (length b.output)) e
  where
    go : (v : (Result (Unit {0}) Refusal)) → (feed_by r p b v).answer ≡ Err why → ((feed_by r p b v).reader ≡ r) × ((feed_by r p b v).buffers ≡ b)
    go (Err w) d = unfold feed_by in (refl, refl)
    go (Ok tt) d = zero_one (unfold feed_by take_of fed_by in cc)

pub progress : Progress
unfolding feed_of
progress r p b consumed wrote ended h pos e = go (verdict_of r (length p) (length b.gathering) (length b.addresses) (length b.output)) refl e
  where
    go : (v : (Result (Unit {0}) Refusal)) → verdict_of r (length p) (length b.gathering) (length b.addresses) (length b.output) ≡ v → (feed_by r p b v).answer ≡ Ok (taking consumed wrote ended) → 0 < consumed
    go (Err w) f d = zero_one (unfold feed_by in cc)
    go (Ok tt) f d =
        let is_c : (plan_of r.opening p r.phase).consumed ≡ consumed = unfold feed_by take_of fed_by in ap (λ (a : Advance). a.consumed) (ok_same d) in
        let w = written r (accepted_makeable r (length p) (length b.gathering) (length b.addresses) (length b.output) f) in
        let q = (planned r.opening w.stream p w.bytes h).2 in
        let is_p = phase-is r w in
        rw (← is_c, ← is_p) (q.progress pos)
