-- The stream table's calls, and judging, are refused each by its list. Assumes nothing.
use Rattle.std.specs.Prelude.{Option, Some, None, Result, Err}
use Rattle.stream_records.specs.Tables.{table_entry}
use Rattle.walks.proofs.Words.{◌≡◌, refl, sym, ◌∙◌, ℕ, ◌/◌, ◌^◌, Bool, true, false, cond, true≢false, ◌↔◌, [], ◌∷◌, length, get_or}
use Rattle.refusal_orders.proofs.Terms.{Refusal, refusal, not_a_request_stream, not_in_table, bad_table, Order, Refuses, When, unless_above, only, passes, stops, goes_on, stops_when, stops_unless, StreamId, Quarter, IsRequestStream, is_request, quarter_of, request_exactly, StreamRecord, Entry, blank, UsedBelow, GoodTable, InTable, Any, Table, is_bad, find, entry_at, entry_of, lowest_free, open_at, open_entry, opening_of, close_entry, closing_of, stand_entry, standing_of, no_place, good_exactly, in_table, not_in_table_lem, lowest_none, none_lowest, zero_one, Judged, quarter, judged_of, stream_named, StreamOpening, SideClosing, StreamFinding, Judging}

when_bad : (t : Table) → When (is_bad t) (GoodTable t → ⊥)
when_bad t = record { on = λ e g. true≢false (sym e ∙ (good_exactly t).1 g); off = λ e n. n ((good_exactly t).0 e) }

-- ---- a call that names a stream

module _ {X : Type 0} (refused : X → ℕ → Type 0) (Refused : Refusal → X) (number : (m n : ℕ) → refused (Refused (refusal m)) n ↔ (n ≡ m)) (t : Table) (id : StreamId) where
  -- 15, 7
  pub asked : {rest : Order} (f : Quarter → X) → (is_bad t ≡ false → Refuses (refused (f (quarter (id.0 / 4)))) rest)
      → Refuses (refused (cond (is_bad t) (Refused bad_table) (elim (quarter_of id) [ None ↦ Refused not_a_request_stream | Some q ↦ f q ])))
      ((15, GoodTable t → ⊥) ∷ (7, IsRequestStream id.0 → ⊥) ∷ rest)
  unfolding quarter_of
  asked {rest} f more = stops_when refused (when_bad t) (number 15) (λ b. go (is_request id.0) refl b)
    where
      go : (h : Bool) → is_request id.0 ≡ h → is_bad t ≡ false
          → Refuses (refused (elim (cond h (Some (quarter (id.0 / 4))) None) [ None ↦ Refused not_a_request_stream | Some q ↦ f q ])) ((7, IsRequestStream id.0 → ⊥) ∷ rest)
      go true e b = goes_on (λ n. n (((request_exactly id).0 (id.0 / 4)).0 (rw e)).0) (more b)
      go false e b = stops ((request_exactly id).1.0 (rw e)) (number 7)

  -- 10
  pub present : {rest : Order} (f : Option Entry → X) → ((n : ℕ) → refused (f None) n ↔ (n ≡ 10))
      → ((i : ℕ) → find (id.0 / 4) t ≡ Some i → Refuses (refused (f (Some (table_entry i (get_or t i blank))))) rest)
      → Refuses (refused (f (entry_of (id.0 / 4) t))) ((10, InTable t (id.0 / 4) Any → ⊥) ∷ rest)
  unfolding entry_at
  present {rest} f absent more = go (find (id.0 / 4) t) refl
    where
      go : (x : Option ℕ) → find (id.0 / 4) t ≡ x → Refuses (refused (f (entry_at t x))) ((10, InTable t (id.0 / 4) Any → ⊥) ∷ rest)
      go None e = stops (not_in_table_lem t (id.0 / 4) Any e) absent
      go (Some i) e = goes_on (λ n. n (in_table t (id.0 / 4) Any i e tt)) (more i e)

-- ---- the calls

-- each answer's refusals
abbrev opens : Result ℕ Refusal → ℕ → Type 0
opens a n = a ≡ Err (refusal n)

open_number : (m n : ℕ) → opens (Err (refusal m)) n ↔ (n ≡ m)
open_number = only Err (λ a b e. cc)

abbrev judges : Result Judged Refusal → ℕ → Type 0
judges a n = a ≡ Err (refusal n)

judge_number : (m n : ℕ) → judges (Err (refusal m)) n ↔ (n ≡ m)
judge_number = only Err (λ a b e. cc)

pub stream-opening : StreamOpening
unfolding opening_of open_entry open_at entry_at
stream-opening t id = asked opens Err open_number t id (λ q. open_entry (entry_of q.0 t) (lowest_free t)) (λ b. by_find (find (id.0 / 4) t) refl)
  where
    by_place : (f : Option ℕ) → lowest_free t ≡ f → Refuses (opens (open_at f)) ((8, UsedBelow t (length t)) ∷ [])
    by_place None e = stops (none_lowest t e) (open_number 8)
    by_place (Some i) e = goes_on (λ u. no_place (sym (lowest_none t u) ∙ e)) (passes (λ n d. zero_one (cc)))

    by_find : (f : Option ℕ) → find (id.0 / 4) t ≡ f → Refuses (opens (open_entry (entry_at t f) (lowest_free t))) ((9, InTable t (id.0 / 4) Any) ∷ (8, UsedBelow t (length t)) ∷ [])
    by_find None e = goes_on (not_in_table_lem t (id.0 / 4) Any e) (by_place (lowest_free t) refl)
    by_find (Some i) e = stops (in_table t (id.0 / 4) Any i e tt) (open_number 9)

-- refused no more once the stream is found
found_or_not : {A : Type 0} (Refused : Refusal → A) → ((a b : Refusal) → Refused a ≡ Refused b → a ≡ b) → (t : Table) (id : StreamId) (f : Option Entry → A) → f None ≡ Refused not_in_table
    → ((i : ℕ) (r : StreamRecord) (why : Refusal) → f (Some (table_entry i r)) ≡ Refused why → ⊥)
    → Refuses (λ n. cond (is_bad t) (Refused bad_table) (elim (quarter_of id) [ None ↦ Refused not_a_request_stream | Some q ↦ f (entry_of q.0 t) ]) ≡ Refused (refusal n))
    (stream_named t id)
found_or_not {A = A} Refused same t id f absent there =
    let refused : A → ℕ → Type 0 = λ a n. a ≡ Refused (refusal n) in
    let number = only Refused same in
    asked refused Refused number t id (λ q. f (entry_of q.0 t))
    (λ b. present refused Refused number t id f (λ n. rw absent (number 10 n)) (λ i e. passes (λ n. there i (get_or t i blank) (refusal n))))

pub side_closing : SideClosing
unfolding closing_of close_entry
side_closing t id side = found_or_not Err (λ a b e. cc) t id (close_entry side) refl (λ i r why e. zero_one (cc))

pub stream_finding : StreamFinding
unfolding standing_of stand_entry
stream_finding t id = found_or_not Err (λ a b e. cc) t id stand_entry refl (λ i r why e. zero_one (cc))

-- ---- judging

-- what holds of neither answer does not hold of the one that a test picks
pub neither : {A : Type 0} (P : A → Type 0) (t : Bool) {x y : A} → (P x → ⊥) → (P y → ⊥) → P (cond t x y) → ⊥
neither P true h k = h
neither P false h k = k

pub judging : Judging
unfolding judged_of
judging t streams limit frame =
    stops_when judges (when_bad t) (judge_number 15) (λ b.
    stops_unless judges (unless_above limit 65535) (judge_number 3) (λ l.
    stops_unless judges (unless_above streams (2 ^ 60)) (judge_number 6) (λ s.
    passes (λ n e. zero_one (cc)))))
