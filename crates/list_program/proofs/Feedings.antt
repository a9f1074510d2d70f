-- What was read, listed feeding by feeding. Assumes nothing.
use Rattle.std.specs.Prelude.{Option, Result, Ok, Err}
use Rattle.opening.specs.declared.Report.{Report}
use Rattle.capsule.specs.declared.reader.Advance.{Advance}
use Rattle.capsule.specs.Reader.{taking}
use Rattle.walks.proofs.Words.{◌≡◌, refl, sym, ap, ◌∙◌, ℕ, ◌+◌, ◌-◌, ◌≤◌, ◌<◌, arith, Bool, true, false, List, [], ◌++◌, length, take, drop, length-append, length-drop, sets, length-sets, length-take-le}
use Rattle.list_program.proofs.Terms.{Refusal, Reader, Bytes, is_partial, starts, bytes_take, bytes_drop, opted_by, opted, Lent, Endpoint, opening, fresh, is_opening, open_of, is_makeable, verdict_of, Feeding, feeding, fed_by, take_of, feed_of, is_makeable_phase, plan_of, zero_one, ok_same, plan-fits, Accepts, accepts, accepted_makeable, after-close, by_lengths, feed_taken, endpoint_off, stays_makeable, progress, as_before, longest, sets_then, Progress, progress_of, line_in, Noted, Lists, none, took, Ready, Read, Within, Listed}
use Rattle.capsule_laws.specs.Before as before

-- ---- a reader that refuses no piece

-- what was accepted is not finished
not_finished : (r : Reader) (piece gathering addresses output : ℕ) → verdict_of r piece gathering addresses output ≡ (Ok tt) → r.finished ≡ false
not_finished r piece gathering addresses output e = go r.finished refl
  where
    go : (f : Bool) → r.finished ≡ f → r.finished ≡ false
    go true f = zero_one (cc (after-close r piece gathering addresses output (accepted_makeable r piece gathering addresses output e) f))
    go false f = f

-- a reader that did not opt in is finished by no feeding
stays_open : (r : Reader) (p : List ℕ) (b : Lent) → opted r.opening ≡ false → r.finished ≡ false → (feed_of r p b).reader.finished ≡ false
unfolding before.feed_of
stays_open r p b e h =
    ap (λ (f : Feeding). f.reader.finished) (as_before r p b e) ∙ go (before.verdict_of r (length p) (length b.gathering) (length b.output))
  where
    go : (v : (Result (Unit {0}) Refusal)) → (before.feed_by r p b.gathering b.output v).reader.finished ≡ false
    go (Err why) = unfold before.feed_by in h
    go (Ok tt) = unfold before.feed_by before.take_of before.fed_by in refl

ready_by : (r : Reader) (gathering addresses output : ℕ) → r.opening ≡ opening Endpoint 1200 false false → 1200 ≤ gathering → is_makeable r ≡ true → r.finished ≡ false
    → Ready r gathering addresses output
ready_by r gathering addresses output e h m f = record {
  accepts = λ piece. sym (by_lengths r piece gathering addresses output m f (Ok tt) (rw e (endpoint_off (opening Endpoint 1200 false false) piece gathering addresses output h refl refl)));
  opened = e;
}

-- the reader that was opened
pub opened_ready : (r : Reader) (gathering addresses output : ℕ) → 1200 ≤ gathering → open_of Endpoint 1200 false false ≡ Ok r → Ready r gathering addresses output
unfolding open_of is_opening
opened_ready r gathering addresses output h e =
    let is_r : fresh (opening Endpoint 1200 false false) ≡ r = cc in
    rw (← is_r) (ready_by (fresh (opening Endpoint 1200 false false)) gathering addresses output refl h (unfold is_makeable is_makeable_phase is_partial starts in refl) refl)

module _ (r : Reader) (p : List ℕ) (b : Lent) (h : Ready r (length b.gathering) (length b.addresses) (length b.output)) where
  taken : take_of r p b ≡ feed_of r p b
  taken = feed_taken r p b (h.accepts (length p))

  accepted : Accepts r (length p) (length b.gathering) (length b.addresses) (length b.output)
  accepted = accepts r (length p) (length b.gathering) (length b.addresses) (length b.output) (h.accepts (length p))

  pub never_refused {ℓ} : {X : Type ℓ} {why : Refusal} → (feed_of r p b).answer ≡ Err why → X
  unfolding take_of fed_by
  never_refused e = zero_one (cc (ap (λ (f : Feeding). f.answer) taken ∙ e))

  -- a feeding consumes no more than its piece
  pub took_within : (consumed written : ℕ) (e : Option Report) → (feed_of r p b).answer ≡ Ok (taking consumed written e) → consumed ≤ length p
  unfolding take_of fed_by
  took_within consumed written e a =
      let is_consumed : (plan_of r.opening p r.phase).consumed ≡ consumed = ap (λ (x : Advance). x.consumed) (ok_same (ap (λ (f : Feeding). f.answer) taken ∙ a)) in
      rw (← is_consumed) (plan-fits r.opening p r.phase accepted.phase).within

  pub ready_again : Bytes p → Ready (feed_of r p b).reader (length b.gathering) (length b.addresses) (length b.output)
  unfolding take_of fed_by
  ready_again k =
      let same-opening : r.opening ≡ (feed_of r p b).reader.opening = ap (λ (f : Feeding). f.reader.opening) taken in
      let not-opted : opted r.opening ≡ false = rw h.opened (unfold opted opted_by in refl) in
      ready_by (feed_of r p b).reader _ _ _ (rw (← same-opening) h.opened) (rw h.opened at accepted.gathers)
      (stays_makeable r p b k (accepted_makeable r 0 _ _ _ (h.accepts 0)))
      (stays_open r p b not-opted (not_finished r 0 _ _ _ (h.accepts 0)))

-- ---- the state between two steps

pub read_ready : (l : Progress) (r : Reader) {read i g a o b : ℕ} → Read l r read b → read ≤ i → Ready r g a o → Within l i g a o b
read_ready l r w h k =
    let e = w.have in
    record { used = w.used; have = omega arith; held = w.held; ready = rw w.same k }

-- ---- what was read, so far

-- feedings that start where a listing stands
pub record Standing (have : ℕ) (r₀ : Reader) (from held₀ : ℕ) (input : List ℕ) (b₀ : Lent) (block₀ : List ℕ) (r : Reader) (b : Lent) (used held : ℕ) (block : List ℕ) : Type 0 where
  pub text : List ℕ
  pub lists : Lists input have r₀ b₀ from r b used text
  pub lines : block ≡ sets block₀ held₀ text
  pub waits : held ≡ held₀ + length text
  pub left : used ≤ have
  pub read : have ≤ length input
  pub room : held ≤ length block₀
  pub same : length block ≡ length block₀
  pub gathering : length b.gathering ≡ length b₀.gathering
  pub addresses : length b.addresses ≡ length b₀.addresses
  pub output : length b.output ≡ length b₀.output
  pub ready : Ready r (length b.gathering) (length b.addresses) (length b.output)

pub stands-first : (l : Progress) (input : List ℕ) (b : Lent) (block : List ℕ) → Within l (length input) (length b.gathering) (length b.addresses) (length b.output) (length block)
    → Standing l.have l.reader l.used l.held input b block l.reader b l.used l.held block
stands-first l input b block w =
    record { text = []; lists = none; lines = refl; waits = omega arith; left = w.used; read = w.have; room = w.held; same = refl; gathering = refl; addresses = refl; output = refl; ready = w.ready }

module _ (l : Progress) {input : List ℕ} {b₀ : Lent} {block₀ : List ℕ} {r : Reader} {b : Lent} {used held : ℕ} {block : List ℕ}
    (s : Standing l.have l.reader l.used l.held input b₀ block₀ r b used held block) where
  pub all_listed : (held + longest ≤ length block₀ → l.have ≤ used) → Listed l input b₀ block₀ (progress_of r l.have used held true) b block
  all_listed up =
      let left = s.left in
      let is_ready = s.ready in
      record {
        text = s.text;
        lists = s.lists;
        lines = s.lines;
        waits = s.waits;
        goes_on = refl;
        used-up = λ h. (let u = up h in omega arith);
        within = record { used = left; have = s.read; held = s.room; ready = rw (← s.gathering, ← s.addresses, ← s.output) is_ready };
      }

  module _ {t : Reader} {a : (Result Advance Refusal)} {d : Lent} (fed : feeding t a d ≡ feed_of r (take (l.have - used) (drop used input)) b) where
    abbrev piece : List ℕ
    piece = take (l.have - used) (drop used input)

    answered : (feed_of r piece b).answer ≡ a
    answered = ap (λ (x : Feeding). x.answer) (sym fed)

    length-piece : length piece ≡ l.have - used
    length-piece =
        let g = s.read in
        length-take-le (l.have - used) (drop used input) (omega (arith, length-drop used input))

    pub unrefused {ℓ} : {X : Type ℓ} (why : Refusal) → a ≡ Err why → X
    unrefused why is_a = never_refused r piece b s.ready (answered ∙ is_a)

    pub used-more : (consumed written : ℕ) (e : Option Report) → a ≡ Ok (taking consumed written e) → used + consumed ≤ l.have
    used-more consumed written e is_a =
        let f = s.left in
        omega (arith, length-piece, took_within r piece b s.ready consumed written e (answered ∙ is_a))

    pub used-some : Bytes input → used < l.have → (consumed written : ℕ) (e : Option Report) → a ≡ Ok (taking consumed written e) → 0 < consumed
    used-some h m consumed written e is_a =
        progress r piece b consumed written e (bytes_take (l.have - used) (drop used input) (bytes_drop used input h)) (omega (arith, length-piece)) (answered ∙ is_a)

    pub stands_took : Bytes input → length d.gathering ≡ length b.gathering → length d.addresses ≡ length b.addresses → length d.output ≡ length b.output
        → (consumed written : ℕ) (e : Option Report) → a ≡ Ok (taking consumed written e) → (waits : ℕ) (after : List ℕ) → Noted (line_in e) block held waits after
        → Standing l.have l.reader l.used l.held input b₀ block₀ t d (used + consumed) waits after
    stands_took h lg la lo consumed written e is_a waits after n =
        let w = s.waits in
        let same = s.same in
        let lines = sets_then block₀ l.held (length s.text) s.text (line_in e) block after refl s.lines (n.placed ∙ ap (λ (k : ℕ). sets block k (line_in e)) w) in
        let is_t : (feed_of r piece b).reader ≡ t = ap (λ (f : Feeding). f.reader) (sym fed) in
        let again = ready_again r piece b s.ready (bytes_take (l.have - used) (drop used input) (bytes_drop used input h)) in
        record {
          text = s.text ++ line_in e;
          lists = took s.lists (rw is_a at fed);
          lines = lines;
          waits = omega (arith, n.counted, length-append s.text (line_in e));
          left = used-more consumed written e is_a;
          read = s.read;
          room = omega (arith, n.within);
          same = ap length lines ∙ length-sets block₀ l.held (s.text ++ line_in e);
          gathering = lg ∙ s.gathering;
          addresses = la ∙ s.addresses;
          output = lo ∙ s.output;
          ready = rw (lg, la, lo, ← is_t) again;
        }
