-- A table after a side was closed, and what both operations leave. Assumes nothing.
use Rattle.std.specs.Prelude.{None, Result, Ok, Err}
use Rattle.refusals.specs.declared.Refusal.{Refusal}
use Rattle.stream_records.specs.Tables.{side_closed}
use Rattle.walks.proofs.Words.{◌≡◌, refl, sym, ap, ◌∙◌, ℕ, ◌<◌, arith, Bool, true, false, not, ◌||◌, true≢false, ltb, length, get_or, set, length-set, get_or-set_same, get_or-set_other, set-get_or, lt-ltb}
use Rattle.stream_records.proofs.Terms.{StreamId, Quarter, largest_quarter, StreamRecord, Side, Receive, Send, SideClosed, blank, flag, is_used, both_closed, is_blank, is_bad_record, holds, with_closed, closed_side, Table, any_bad, stands_twice, is_bad, find, entry_at, lowest_free, open_at, open_entry, opening_of, closing_of, table_opened, table_closed, ClosedRight, ClosedTwice, ClosedAgain, ClosedStored, FreedFoundAgain, FullThenFreed, StaysGood, OthersUntouched, TooManyRefused, NoneIsGood}
use Rattle.stream_records.proofs.{Flags.or_none, Flags.used-bad, Flags.closed_exactly, Flags.closed_already, Places.First, Places.is_free, Places.find_first, Places.lowest_first, Places.first-at, Places.none_is, Places.find-nothing, Decisions.opened_so_lem, Decisions.Closes, Decisions.closes, Decisions.closed_so_lem, Goodness.good_of, Goodness.of_good, Goodness.held, Goodness.holds_so, Goodness.blank_free, Goodness.found_once, Goodness.after-set, Goodness.set_first, Goodness.set_good, Openings.opened-length, Openings.opened_other, Openings.lowest_none, Openings.opening_good}

-- ---- a record with a side closed

module _ (side : Side) (r : StreamRecord) where
  pub record Still : Type 0 where
    pub used : is_used (with_closed side r) ≡ is_used r
    pub quarter : (with_closed side r).quarter ≡ r.quarter
    pub twice : with_closed side (with_closed side r) ≡ with_closed side r

still : (side : Side) (r : StreamRecord) → Still side r
still side r = let e = (closed_exactly r).2 side in record { used = e.1; quarter = e.0; twice = again side }
  where
    again : (side : Side) → with_closed side (with_closed side r) ≡ with_closed side r
    again Receive = (closed_already (with_closed Receive r)).0 (closed_exactly r).0.0
    again Send = (closed_already (with_closed Send r)).1 (closed_exactly r).1.0

freed_blank : (side : Side) (r : StreamRecord) → both_closed (with_closed side r) ≡ true → closed_side side r ≡ blank
unfolding closed_side
freed_blank side r e = rw e

kept_open : (side : Side) (r : StreamRecord) → both_closed (with_closed side r) ≡ false → closed_side side r ≡ with_closed side r
unfolding closed_side
kept_open side r e = rw e

-- what holds of the blank and of the record with the side closed holds of what becomes of it
becomes : (P : StreamRecord → Type 0) (side : Side) (r : StreamRecord) → P blank → (both_closed (with_closed side r) ≡ false → P (with_closed side r)) → P (closed_side side r)
becomes P side r x y = go (both_closed (with_closed side r)) refl
  where
    go : (b : Bool) → both_closed (with_closed side r) ≡ b → P (closed_side side r)
    go true e = rw (freed_blank side r e) x
    go false e = rw (kept_open side r e) (y e)

closed-holds : (q : ℕ) (side : Side) (r : StreamRecord) → holds q (closed_side side r) ≡ true → holds q r ≡ true
closed-holds q side r = becomes (λ x. holds q x ≡ true → holds q r ≡ true) side r (λ h. absurd (true≢false (sym h ∙ blank_free q)))
    (λ e h. let s = still side r in let f = held q (with_closed side r) h in
    holds_so q r (sym s.used ∙ f.0) (ap (λ (x : Quarter). x.0) (sym s.quarter) ∙ f.1))

used_good : (r : StreamRecord) → is_used r ≡ true → is_bad_record r ≡ false → (ltb largest_quarter r.quarter.0 ≡ false) × (both_closed r ≡ false)
used_good r u e = or_none _ _ (sym (used-bad r u) ∙ e)

closed_good : (side : Side) (r : StreamRecord) → is_used r ≡ true → is_bad_record r ≡ false → is_bad_record (closed_side side r) ≡ false
unfolding is_bad_record is_blank flag
closed_good side r u b = becomes (λ x. is_bad_record x ≡ false) side r refl
    (λ e. let s = still side r in let l = ap (λ (x : Quarter). ltb largest_quarter x.0) s.quarter ∙ (used_good r u b).0 in
    used-bad (with_closed side r) (s.used ∙ u) ∙ (λ i. l i || e i))

twice_closed : (side : Side) (r : StreamRecord) → both_closed (with_closed side r) ≡ false → closed_side side (closed_side side r) ≡ closed_side side r
twice_closed side r e =
    let t = (still side r).twice in
    rw (kept_open side r e) (kept_open side (with_closed side r) (rw t e) ∙ t)

-- ---- the table

module _ (t : Table) (id : StreamId) (side : Side) (i : ℕ) (freed : Bool) (c : Closes t id side i freed) where
  abbrev old : StreamRecord
  old = get_or t i blank

  stood : First (holds c.quarter.0) t i
  stood = first-at (holds c.quarter.0) t i (sym (find_first c.quarter.0 t) ∙ c.found)

  closed-table_good : is_bad (set t i (closed_side side old)) ≡ false
  closed-table_good =
      let g = good_of t c.good in
      let u = (held c.quarter.0 old stood.here).0 in
      of_good _ (set_good t i (closed_side side old) stood.within g (closed_good side old u (g.each i)) (λ q h k m. g.once q k i m (closed-holds q side old h)))

closing_good : (t : Table) (id : StreamId) (side : Side) → is_bad t ≡ false → is_bad (table_closed t side (closing_of t id side)) ≡ false
unfolding table_closed
closing_good t id side b = go (closing_of t id side) refl
  where
    go : (a : Result SideClosed Refusal) → closing_of t id side ≡ a → is_bad (table_closed t side a) ≡ false
    go (Err r) e = b
    go (Ok side') e = closed-table_good t id side side'.place side'.freed (closes t id side side'.place side'.freed e)

pub stays_good : StaysGood
stays_good t id b = (λ semantics. opening_good t id semantics b, λ side. closing_good t id side b)

closed-length : (t : Table) (side : Side) (a : Result SideClosed Refusal) → length (table_closed t side a) ≡ length t
unfolding table_closed
closed-length t side (Err r) = refl
closed-length t side (Ok side') = length-set t side'.place _

pub others_untouched : OthersUntouched
unfolding table_opened table_closed
others_untouched t = (
  opened-length t,
  closed-length t,
  opened_other t,
  λ side i j freed n. get_or-set_other t i j _ blank n,
  λ id semantics side r. (refl, refl),
)

same : (t : Table) (id : StreamId) (side : Side) (i : ℕ) → Closes t id side i false
    → let after : Table = set t i (closed_side side (get_or t i blank)) in
    (closing_of after id side ≡ Ok (side_closed i false)) × (set after i (closed_side side (get_or after i blank)) ≡ after)
same t id side i c =
    let old = get_or t i blank in
    let new = closed_side side old in
    let after : Table = set t i new in
    let first = stood t id side i false c in
    let s = still side old in
    let now : get_or after i blank ≡ new = get_or-set_same t i new blank first.within in
    let kept : new ≡ with_closed side old = kept_open side old c.frees in
    let h = held c.quarter.0 old first.here in
    let holding : holds c.quarter.0 new ≡ true = rw kept (holds_so c.quarter.0 (with_closed side old) (s.used ∙ h.0) (ap (λ (x : Quarter). x.0) s.quarter ∙ h.1)) in
    let good = closed-table_good t id side i false c in (
      closed_so_lem after id side i false (record {
        good = good;
        quarter = c.quarter;
        is = c.is;
        found = found_once c.quarter.0 i after good (rw now holding);
        frees = ap (λ (r : StreamRecord). both_closed (with_closed side r)) (now ∙ kept) ∙ ap both_closed s.twice ∙ c.frees;
      }),
      ap (set after i) (ap (closed_side side) now ∙ twice_closed side old c.frees ∙ sym now) ∙ set-get_or after i blank,
    )

pub closed-twice : ClosedTwice
unfolding table_closed
closed-twice = (twice_closed, λ t id side i e. same t id side i (closes t id side i false e))

pub closed_right : ClosedRight
closed_right t id side q i freed e is =
    let c = closes t id side i freed e in
    let s = stood t id side i freed c in
    let same : c.quarter ≡ q = cc c.is in
    (s.within, rw same at s.here, sym c.frees)

pub closed-stored : ClosedStored
unfolding table_closed closed_side
closed-stored t id side i freed e =
    let c = closes t id side i freed e in
    let same_place = get_or-set_same t i (closed_side side (get_or t i blank)) blank (stood t id side i freed c).within in
    (λ f. same_place ∙ rw (c.frees ∙ f), λ f. same_place ∙ rw (c.frees ∙ f))

pub closed_again : ClosedAgain
unfolding table_closed
closed_again t id side i freed e s =
    let c = closes t id side i freed e in
    let old = get_or t i blank in
    let u = (held c.quarter.0 old (stood t id side i freed c).here).0 in
    let o : both_closed (with_closed side old) ≡ false = ap both_closed s ∙ (used_good old u ((good_of t c.good).each i)).1 in
    (sym c.frees ∙ o, ap (set t i) (kept_open side old o ∙ s) ∙ set-get_or t i blank)

-- ---- a record freed

module _ (t : Table) (id : StreamId) (side : Side) (i : ℕ) (c : Closes t id side i true) where
  abbrev gone : StreamRecord
  gone = closed_side side (get_or t i blank)

  gone-blank : gone ≡ blank
  gone-blank = freed_blank side (get_or t i blank) c.frees

  gone_inside : i < length t
  gone_inside = (stood t id side i true c).within

  gone_free : is_free gone ≡ true
  unfolding flag
  gone_free = ap is_free gone-blank

  -- what is not in the table is not in it afterwards
  still_away : (q : ℕ) → find q t ≡ None → find q (set t i gone) ≡ None
  still_away q e = find_first q (set t i gone) ∙ none_is (holds q) (set t i gone)
      (λ k m. after-set t i gone gone_inside k (λ f x. ap (holds q) (x ∙ gone-blank) ∙ blank_free q) (λ n x. ap (holds q) x ∙ find-nothing q t e k))

pub freed_found_again : FreedFoundAgain
unfolding table_closed
freed_found_again t id side i e =
    let c = closes t id side i true e in
    let l = gone_inside t id side i c in (
      get_or-set_same t i _ blank l ∙ gone-blank t id side i c,
      λ below new q is away. opened_so_lem (set t i (gone t id side i c)) new i (record {
        good = closed-table_good t id side i true c;
        quarter = q;
        is = is;
        absent = away;
        lowest = lowest_first _ ∙ set_first t i _ l is_free (gone_free t id side i c) (λ k m. ap not (below k m));
      }),
    )

pub full_then_freed : FullThenFreed
unfolding opening_of table_closed open_at open_entry entry_at
full_then_freed t new q b all is away = (
  rw (b, is, opening_of, away, lowest_none t all),
  λ id side i e.
      let c = closes t id side i true e in
      let l : i < length t = gone_inside t id side i c in
      (freed_found_again t id side i e).1 (λ k m. all k (omega arith)) new q is (still_away t id side i c q.0 away),
)

-- ---- too many records, and none

pub too_many-refused : TooManyRefused
unfolding opening_of closing_of is_bad
too_many-refused t l id = (rw (lt-ltb 64 (length t) l), λ side. rw (lt-ltb 64 (length t) l))

pub none_is_good : NoneIsGood
unfolding opening_of open_entry open_at entry_at find lowest_free is_bad any_bad stands_twice
none_is_good id q e = rw (e, opening_of)
