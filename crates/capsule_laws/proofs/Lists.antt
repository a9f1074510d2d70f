-- Demand 3: every list of calls. Assumes nothing.
use Rattle.std.specs.Prelude.{Result, Ok, Err}
use Rattle.refusals.specs.declared.Refusal.{Refusal}
use Rattle.walks.proofs.Words.{◌≡◌, refl, sym, ap, ◌∙◌, subst, ℕ, suc, ◌+◌, ◌-◌, ◌≤◌, arith, Bool, true, false, Option, None, Some, List, [], ◌∷◌, length, take, drop, length-append, drop-append_seam, sets, length-take-le, le-leb, lt-ltb, ne_eqb}
use Rattle.capsule_laws.proofs.Terms.{Partial, Bytes, bytes_of, largest, partial_of, held_bytes, bytes_drop, length-bytes_of, read_bounds, no_whole_nil, both, partial_occurs, Opening, Role, Plan, Phase, Reader, Stage, in_type, in_length, in_value, part, Parts, longest_address_value, opted, extent_of, gathers, keeps, Lent, Call, feed, close, Reply, run, parts_for, only_if, forwarded, append, Book, new_book, book_verdict, gained, book_feed, end_of, book_close, book_call, phase_at, phase_of, reader_of, of_book, opening, fresh, is_opening, open_of, is_makeable, verdict_of, wrote, fed_by, take_of, feed_by, feed_of, end_at, close_of, feed_reply, close_reply, reader_call, is_makeable_phase, plan_of, held_of, StandsAt, StandsBy, Stands, AllBytes, Agrees, Follows, left_by, HandedOn, LentWell, Demand3, Demand3Standing, zero_one, no_true, keeps-opted, plan-fits, held_few, Accepts, accepts}
use Rattle.capsule_laws.proofs.{Grammar.sees_type, Grammar.sees_length, Grammar.sees_value, Grammar.head_fits, Appending.Shows, Appending.for_nil, Appending.tail_shows, Appending.for_bytes, Gathering.take-sets, Steps.Same, Steps.same, Steps.between}
use Rattle.capsule_laws.proofs.Graphs as graphs

-- ---- what a stream makes is makeable

made-phase : (op : Opening) (r : List ℕ) (x : Stage) → Shows op r (part x) → Bytes r → is_makeable_phase op (phase_at op r x) ≡ true
unfolding is_makeable_phase phase_at
made-phase op r x (sees_type e) h = partial_occurs r h e
made-phase op r x (sees_length {t = t} {j = j} e d) h =
    both _ _ (le-leb t largest (read_bounds r t j h e).0) (partial_occurs (drop j r) (bytes_drop j r h) d)
made-phase op r x (sees_value {t = t} {j = j} {n = n} {k = k} e d l) h =
    let f = head_fits r e d in
    let left = j + k + extent_of op t n - length r in
    both _ _ (le-leb t largest (read_bounds r t j h e).0)
    (both _ _ (le-leb n largest (read_bounds (drop j r) n k (bytes_drop j r h) d).0)
    (both _ _ (lt-ltb 0 left (omega arith)) (le-leb left (extent_of op t n) (omega arith))))

pub made-stream : (op : Opening) (s : List ℕ) → Bytes s → is_makeable_phase op (phase_of op (parts_for op s)) ≡ true
unfolding phase_of
made-stream op s h = made-phase op (parts_for op s).tail (parts_for op s).stage (tail_shows op s) (for_bytes op s h)

-- ---- the book of an accepted opening, whose stream is bytes

pub record Open (k : Book) : Type 0 where
  pub accepted : is_opening k.opening ≡ true
  pub bytes : Bytes k.stream

pub made_book : (k : Book) → Open k → is_makeable (of_book k) ≡ true
unfolding is_makeable of_book reader_of
made_book k o = both _ _ o.accepted (made-stream k.opening k.stream o.bytes)

pub verdict_same : (k : Book) (p : List ℕ) (b : Lent) → Open k
    → verdict_of (of_book k) (length p) (length b.gathering) (length b.addresses) (length b.output) ≡ book_verdict k p b
unfolding verdict_of book_verdict
verdict_same k p b o = rw (made_book k o) (unfold of_book reader_of in refl)

pub unmarked : (k : Book) (p : List ℕ) (b : Lent) → book_verdict k p b ≡ (Ok tt) → k.mark ≡ false
unfolding book_verdict
unmarked k p b e = graphs.unmarked k.mark _ e

-- ---- what is written stands at the output's front

pub wrote-fits : (f : Bool) (held : Partial) (c : ℕ) (p o : List ℕ) → c ≤ length p → (f ≡ true → held.have + c ≤ length o) → length (wrote f held c p) ≤ length o
unfolding wrote only_if held_bytes
wrote-fits true held c p o h g =
    omega (arith, g refl, length-append (bytes_of held.have held.raw) (take c p), length-bytes_of held.have held.raw, length-take-le c p h)
wrote-fits false held c p o h g = omega arith

front_written : (o w : List ℕ) → length w ≤ length o → take (length w) (sets o 0 w) ≡ w
front_written o w h = take-sets o w 0 (length w) (omega arith) h

-- ---- one accepted feeding

module _ (k : Book) (p : List ℕ) (b : Lent) (o : Open k) (h : Bytes p) (v : book_verdict k p b ≡ (Ok tt)) (s : Stands k b) where
  abbrev op : Opening
  op = k.opening

  abbrev phase : Phase
  phase = phase_of op (parts_for op k.stream)

  abbrev plan : Plan
  plan = plan_of op p phase

  abbrev w : List ℕ
  w = wrote plan.forward (held_of phase) plan.consumed p

  may : Accepts (of_book k) (length p) (length b.gathering) (length b.addresses) (length b.output)
  may = accepts (of_book k) (length p) (length b.gathering) (length b.addresses) (length b.output) (verdict_same k p b o ∙ v)

  enough : op.limit ≤ length b.gathering
  unfolding of_book reader_of
  enough = may.gathers

  enough_too : opted op ≡ true → longest_address_value ≤ length b.addresses
  unfolding of_book reader_of
  enough_too = may.keeps

  there : Same op k.stream p b.gathering b.addresses plan (append op k.stream p)
  there = same op k.stream p b.gathering b.addresses o.bytes h enough enough_too s.0 s.1

  fits : length w ≤ length b.output
  unfolding of_book reader_of
  fits =
      let m = made-stream op k.stream o.bytes in
      let f = plan-fits op p phase m in
      wrote-fits plan.forward (held_of phase) plan.consumed p b.output f.within
      (λ i. omega (arith, may.forwards (f.forwards i), held_few op phase m, f.within))

  gains : w ≡ gained op k.stream (append op k.stream p).stream
  unfolding gained
  gains = sym (ap (drop (length (forwarded op k.stream))) there.writes ∙ drop-append_seam (forwarded op k.stream) w)

  pub taken : ◌≡◌ {A = Reader × Reply} ((take_of (of_book k) p b).reader, feed_reply (take_of (of_book k) p b).answer (take_of (of_book k) p b).buffers) (of_book (book_feed k p (Ok tt)).0, (book_feed k p (Ok tt)).1)
  unfolding take_of fed_by of_book reader_of book_feed feed_reply
  taken =
      let c = there.consumed in
      rw (front_written b.output w fits, there.ended, there.payload, gains, c, there.phase, unmarked k p b v)

  pub taken-stands : Stands (book_feed k p (Ok tt)).0 (take_of (of_book k) p b).buffers
  unfolding take_of fed_by of_book reader_of book_feed
  taken-stands = (there.gathered, there.kept)

  pub taken_open : Open (book_feed k p (Ok tt)).0
  unfolding book_feed
  taken_open = record { accepted = o.accepted; bytes = there.bytes }

-- ---- one call

pub record One (k : Book) (c : Call) : Type 0 where
  pub same_answer : reader_call (of_book k) c ≡ (of_book (book_call k c).0, (book_call k c).1)
  pub stays_open : Open (book_call k c).0

module _ (k : Book) (p : List ℕ) (b : Lent) where
  pub left_by_lem : (v : (Result (Unit {0}) Refusal)) → verdict_of (of_book k) (length p) (length b.gathering) (length b.addresses) (length b.output) ≡ v → feed_of (of_book k) p b ≡ feed_by (of_book k) p b v
  unfolding feed_of
  left_by_lem v e = rw e

  pub book_by : (v : (Result (Unit {0}) Refusal)) → book_verdict k p b ≡ v → book_call k (feed p b) ≡ book_feed k p v
  unfolding book_call
  book_by v e = rw e

  one_feed : Open k → Bytes p → (book_verdict k p b ≡ (Ok tt) → Stands k b) → One k (feed p b)
  one_feed o h s = go (book_verdict k p b) refl
    where
      by : (v : (Result (Unit {0}) Refusal)) → book_verdict k p b ≡ v
          → ◌≡◌ {A = Reader × Reply} ((feed_by (of_book k) p b v).reader, feed_reply (feed_by (of_book k) p b v).answer (feed_by (of_book k) p b v).buffers) (of_book (book_feed k p v).0, (book_feed k p v).1)
          → Open (book_feed k p v).0 → One k (feed p b)
      by v e f g = record { same_answer = unfold reader_call in rw (left_by_lem v (verdict_same k p b o ∙ e), book_by v e) f; stays_open = rw (book_by v e) g }

      go : (v : (Result (Unit {0}) Refusal)) → book_verdict k p b ≡ v → One k (feed p b)
      go (Err r) v = by (Err r) v (unfold feed_by feed_reply book_feed in refl) (unfold book_feed in o)
      go (Ok tt) v = by (Ok tt) v (unfold feed_by in taken k p b o h v (s v)) (taken_open k p b o h v (s v))

-- a clean close finds the tail empty exactly between capsules
end_same : (op : Opening) (r : List ℕ) (x : Stage) → Shows op r (part x) → end_at (phase_at op r x) ≡ end_of r
unfolding end_at phase_at end_of partial_of
end_same op [] x (sees_type e) = refl
end_same op (b ∷ r) x (sees_type e) = rw (ne_eqb (suc (length r)) 0 (λ z. omega arith))
end_same op [] x (sees_length e d) = no_whole_nil e
end_same op (b ∷ r) x (sees_length e d) = refl
end_same op [] x (sees_value e d h) = no_whole_nil e
end_same op (b ∷ r) x (sees_value e d h) = refl

module _ (k : Book) (o : Open k) where
  ended_same : end_at (phase_of k.opening (parts_for k.opening k.stream)) ≡ end_of (parts_for k.opening k.stream).tail
  unfolding phase_of
  ended_same = end_same k.opening (parts_for k.opening k.stream).tail (parts_for k.opening k.stream).stage (tail_shows k.opening k.stream)

  pub closed_same : (m : Bool) → k.mark ≡ m → reader_call (of_book k) close ≡ (of_book (book_close k m).0, (book_close k m).1)
  unfolding reader_call close_of book_close
  closed_same true e = rw (made_book k o) (unfold of_book reader_of close_reply in rw e)
  closed_same false e = rw (made_book k o) (unfold of_book reader_of in rw (e, graphs.close_reply_lem (phase_of k.opening (parts_for k.opening k.stream)), ended_same))

  pub one-close : One k close
  unfolding book_call
  one-close = record { same_answer = closed_same k.mark refl; stays_open = go k.mark }
    where
      go : (m : Bool) → Open (book_close k m).0
      go true = unfold book_close in o
      go false = unfold book_close in record { accepted = o.accepted; bytes = o.bytes }

-- ---- all calls

pub all_calls : (k : Book) (cs : List Call) → Open k → AllBytes cs → LentWell k cs → run reader_call (of_book k) cs ≡ (of_book (run book_call k cs).0, (run book_call k cs).1)
unfolding run
all_calls k [] o h l = refl
all_calls k (feed p b ∷ cs) o h l =
    let y = one_feed k p b o h.0 l.0 in
    rw (y.same_answer, all_calls (book_call k (feed p b)).0 cs y.stays_open h.1 l.1)
all_calls k (close ∷ cs) o h l =
    let y = one-close k o in
    rw (y.same_answer, all_calls (book_call k close).0 cs y.stays_open h.1 l)

-- ---- buffers that are handed on

-- what the last accepted feeding left, against the stream
abbrev Ready : Book → Option Lent → Type 0
Ready k None = (b : Lent) → Stands k b
Ready k (Some b) = Stands k b

-- a reader that did not opt in keeps nothing in the second buffer
pub none_kept : (op : Opening) (r : List ℕ) (x : Stage) (a : List ℕ) → opted op ≡ false → StandsAt (keeps op) r x a
none_kept op r in_type a e = tt
none_kept op r (in_length t j) a e = tt
none_kept op r (in_value t n j) a e = λ k. no_true (sym e ∙ keeps-opted op t n k)

ready_lent : (k : Book) (last : Option Lent) (b : Lent) → Ready k last → Follows k.opening last b → Stands k b
ready_lent k None b r f = r b
ready_lent k (Some l) b r f = (subst (λ (g : List ℕ). StandsBy (gathers k.opening) k g) (sym f.0) r.0, go (opted k.opening) refl)
  where
    go : (o : Bool) → opted k.opening ≡ o → StandsBy (keeps k.opening) k b.addresses
    go true e = subst (λ (g : List ℕ). StandsBy (keeps k.opening) k g) (sym (f.1 e)) r.1
    go false e = none_kept k.opening (parts_for k.opening k.stream).tail (parts_for k.opening k.stream).stage b.addresses e

ready_close : (k : Book) (last : Option Lent) (m : Bool) → Ready k last → Ready (book_close k m).0 last
unfolding book_close
ready_close k None true r = r
ready_close k (Some g) true r = r
ready_close k None false r = r
ready_close k (Some g) false r = r

ready_feed : (k : Book) (last : Option Lent) (p : List ℕ) (b : Lent) → Open k → Bytes p → Ready k last → (book_verdict k p b ≡ (Ok tt) → Follows k.opening last b)
    → Ready (book_call k (feed p b)).0 (left_by (book_verdict k p b) last (feed_of (of_book k) p b).buffers)
ready_feed k last p b o h r f = go (book_verdict k p b) refl
  where
    go : (v : (Result (Unit {0}) Refusal)) → book_verdict k p b ≡ v → Ready (book_call k (feed p b)).0 (left_by (book_verdict k p b) last (feed_of (of_book k) p b).buffers)
    go (Err why) v = rw (v, book_by k p b (Err why) v) (unfold book_feed left_by in r)
    go (Ok tt) v =
        rw (v, book_by k p b (Ok tt) v, left_by_lem k p b (Ok tt) (verdict_same k p b o ∙ v))
        (unfold left_by feed_by in taken-stands k p b o h v (ready_lent k last b r (f v)))

lent_well : (k : Book) (last : Option Lent) (cs : List Call) → Open k → AllBytes cs → Ready k last → HandedOn last k (of_book k) cs → LentWell k cs
lent_well k last [] o h r l = tt
lent_well k last (feed p b ∷ cs) o h r l =
    let s : book_verdict k p b ≡ (Ok tt) → Stands k b = λ v. ready_lent k last b r (l.0 v) in
    let y = one_feed k p b o h.0 s in
    let k' = (book_call k (feed p b)).0 in
    let last' = left_by (book_verdict k p b) last (feed_of (of_book k) p b).buffers in
    let l' : HandedOn last' k' (of_book k') cs = subst (λ (x : Reader × Reply). HandedOn last' k' x.0 cs) y.same_answer l.1 in
    (s, lent_well k' last' cs y.stays_open h.1 (ready_feed k last p b o h.0 r l.0) l')
lent_well k last (close ∷ cs) o h r l =
    let y = one-close k o in
    let k' = (book_call k close).0 in
    let l' : HandedOn last k' (of_book k') cs = subst (λ (x : Reader × Reply). HandedOn last k' x.0 cs) y.same_answer l in
    lent_well k' last cs y.stays_open h.1 (unfold book_call in ready_close k last k.mark r) l'

-- ---- from the opening

pub open_fresh : (role : Role) (limit : ℕ) (draft addresses : Bool) (r : Reader) → open_of role limit draft addresses ≡ Ok r → (is_opening (opening role limit draft addresses) ≡ true) × (r ≡ fresh (opening role limit draft addresses))
unfolding open_of
open_fresh role limit draft addresses r e = go (is_opening (opening role limit draft addresses)) refl
  where
    go : (t : Bool) → is_opening (opening role limit draft addresses) ≡ t → (is_opening (opening role limit draft addresses) ≡ true) × (r ≡ fresh (opening role limit draft addresses))
    go true d = (d, cc (rw d at e))
    go false d = zero_one (cc (rw d at e))

pub fresh_book : (op : Opening) → fresh op ≡ of_book (new_book op)
unfolding of_book new_book reader_of phase_of
fresh_book op = λ i. record { opening = op; phase = (between op ∙ ap (λ (x : Parts). phase_at op x.tail x.stage) (sym (for_nil op))) i; finished = false }

pub fresh_open : (op : Opening) → is_opening op ≡ true → Open (new_book op)
unfolding new_book
fresh_open op e = record { accepted = e; bytes = tt }

fresh_ready : (op : Opening) → Ready (new_book op) None
unfolding new_book
fresh_ready op l = (
  subst (λ (x : Parts). StandsAt (gathers op) x.tail x.stage l.gathering) (sym (for_nil op)) tt,
  subst (λ (x : Parts). StandsAt (keeps op) x.tail x.stage l.addresses) (sym (for_nil op)) tt,
)

from_opening : (op : Opening) (cs : List Call) → is_opening op ≡ true → AllBytes cs → LentWell (new_book op) cs → Agrees op (fresh op) cs
from_opening op cs e h l = rw (fresh_book op) (all_calls (new_book op) cs (fresh_open op e) h l)

pub demand_3_standing : Demand3Standing
demand_3_standing role limit draft addresses r e cs h l =
    let f = open_fresh role limit draft addresses r e in
    rw f.1 (from_opening (opening role limit draft addresses) cs f.0 h l)

-- where the buffers are handed on, the gathered value bytes stand at their fronts
pub handed_well : (role : Role) (limit : ℕ) (draft addresses : Bool) (r : Reader) → open_of role limit draft addresses ≡ Ok r
    → (cs : List Call) → AllBytes cs → HandedOn None (new_book (opening role limit draft addresses)) r cs → LentWell (new_book (opening role limit draft addresses)) cs
handed_well role limit draft addresses r e cs h l =
    let f = open_fresh role limit draft addresses r e in
    let op = opening role limit draft addresses in
    let l' : HandedOn None (new_book op) (of_book (new_book op)) cs = subst (λ (x : Reader). HandedOn None (new_book op) x cs) (f.1 ∙ fresh_book op) l in
    lent_well (new_book op) None cs (fresh_open op f.0) h (fresh_ready op) l'

pub demand_3 : Demand3
demand_3 role limit draft addresses r e cs h l = demand_3_standing role limit draft addresses r e cs h (handed_well role limit draft addresses r e cs h l)
