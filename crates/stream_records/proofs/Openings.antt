-- A table after a stream was opened. Assumes nothing.
use Rattle.std.specs.Prelude.{Option, Some, None, Result, Ok, Err}
use Rattle.refusals.specs.declared.Refusal.{Refusal}
use Rattle.walks.proofs.Words.{◌≡◌, refl, sym, ap, ◌∙◌, ℕ, Bool, true, false, not, ◌||◌, true≢false, length, get_or, set, length-set, get_or-set_other, get_or-set_same, le-ltb, not-true, not-false}
use Rattle.stream_records.proofs.Terms.{StreamId, Quarter, largest_quarter, quarter_of, quarter_bounded, blank, flag, is_used, opened, both_closed, is_bad_record, holds, Table, is_bad, lowest_free, opening_of, table_opened, UsedBelow, OpenedExactly, LowestTaken, OpenedFound, OpenedStored}
use Rattle.stream_records.proofs.{Flags.used-bad, Places.First, Places.is_free, Places.find_first, Places.lowest_first, Places.first-at, Places.none_is, Places.none_below, Places.find-nothing, Decisions.if_request, Decisions.opened-table, Decisions.Opens, Decisions.opens, Goodness.good_of, Goodness.of_good, Goodness.held, Goodness.holds_so, Goodness.set_first, Goodness.set_good}

pub opened-length : (t : Table) (id : StreamId) (semantics : Bool) (a : Result ℕ Refusal) → length (table_opened t id semantics a) ≡ length t
unfolding table_opened
opened-length t id semantics (Err r) = refl
opened-length t id semantics (Ok i) = go (quarter_of id)
  where
    go : (x : Option Quarter) → length (if_request t (λ q. set t i (opened q semantics)) x) ≡ length t
    go None = refl
    go (Some q) = length-set t i (opened q semantics)

pub opened_other : (t : Table) (id : StreamId) (semantics : Bool) (i j : ℕ) → (j ≡ i → ⊥) → get_or (table_opened t id semantics (Ok i)) j blank ≡ get_or t j blank
unfolding table_opened
opened_other t id semantics i j n = go (quarter_of id)
  where
    go : (x : Option Quarter) → get_or (if_request t (λ q. set t i (opened q semantics)) x) j blank ≡ get_or t j blank
    go None = refl
    go (Some q) = get_or-set_other t i j (opened q semantics) blank n

pub opened_exactly : OpenedExactly
unfolding flag
opened_exactly q true = (refl, refl, refl, refl, refl, refl)
opened_exactly q false = (refl, refl, refl, refl, refl, refl)

opened_used : (q : Quarter) (semantics : Bool) → is_used (opened q semantics) ≡ true
opened_used q semantics = (opened_exactly q semantics).1

opened_open : (q : Quarter) (semantics : Bool) → both_closed (opened q semantics) ≡ false
unfolding both_closed flag
opened_open q true = refl
opened_open q false = refl

opened_good : (id : StreamId) (q : Quarter) (semantics : Bool) → quarter_of id ≡ Some q → is_bad_record (opened q semantics) ≡ false
opened_good id q semantics e =
    used-bad (opened q semantics) (opened_used q semantics)
    ∙ (λ i. le-ltb largest_quarter q.0 (quarter_bounded id q e) i || opened_open q semantics i)

-- ---- the lowest free place

pub lowest_none : (t : Table) → UsedBelow t (length t) → lowest_free t ≡ None
lowest_none t u = lowest_first t ∙ none_is is_free t (λ k l. ap not (u k l))

pub none_lowest : (t : Table) → lowest_free t ≡ None → UsedBelow t (length t)
none_lowest t e k l = not-false (is_used (get_or t k blank)) (none_below is_free t (sym (lowest_first t) ∙ e) k l)

-- the place that was taken is the first free one
taken : (t : Table) (id : StreamId) (i : ℕ) → Opens t id i → First is_free t i
taken t id i o = first-at is_free t i (sym (lowest_first t) ∙ o.lowest)

pub lowest_taken : LowestTaken
lowest_taken t id i e =
    let f = taken t id i (opens t id i e) in
    (not-true (is_used (get_or t i blank)) f.here, f.within, λ k l. not-false (is_used (get_or t k blank)) (f.below k l))

pub opened-found : OpenedFound
opened-found t id semantics q i e is =
    let o = opens t id i e in
    let s : o.quarter ≡ q = cc o.is in
    let r = opened q semantics in
    rw (opened-table t id semantics q i is, find_first) (set_first t i r (taken t id i o).within (holds q.0) (holds_so q.0 r (opened_used q semantics) refl)
    (λ k m. find-nothing q.0 t (rw s at o.absent) k))

pub opened-stored : OpenedStored
opened-stored t id semantics q i e is =
    rw (opened-table t id semantics q i is) (get_or-set_same t i (opened q semantics) blank (taken t id i (opens t id i e)).within)

pub opening_good : (t : Table) (id : StreamId) (semantics : Bool) → is_bad t ≡ false → is_bad (table_opened t id semantics (opening_of t id)) ≡ false
unfolding table_opened
opening_good t id semantics b = go (opening_of t id) refl
  where
    go : (a : Result ℕ Refusal) → opening_of t id ≡ a → is_bad (table_opened t id semantics a) ≡ false
    go (Err r) e = b
    go (Ok i) e =
        let o = opens t id i e in
        let q = o.quarter in
        let away = find-nothing q.0 t o.absent in
        rw (opened-table t id semantics q i o.is) (of_good _ (set_good t i (opened q semantics) (taken t id i o).within (good_of t b) (opened_good id q semantics o.is)
        (λ p h k m. absurd (true≢false (sym m ∙ rw (held p (opened q semantics) h).1 at (away k))))))
