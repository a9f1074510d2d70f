-- What the code decides and stores is what `Tables` says. Assumes nothing.
use Rattle.std.specs.Prelude.{Some, Result, Ok, Err}
use Rattle.refusals.specs.declared.Refusal.{Refusal}
use Rattle.refusals.specs.Numbers.{bad_table}
use Rattle.walks.proofs.Words.{◌≡◌, ℕ, refl, sym, ap, ◌∙◌, cond, set}
use Rattle.stream_plans.proofs.Terms.{StreamId, Quarter, StreamRecord, Side, SideClosed, opened, closed_side, Table, find, entry_at, lookup_of, sought, lowest_free, open_entry, opening_of, close_entry, closing_of, stand_entry, standing_of, table_opened, table_closed, opening_by, closing_by, standing_by, opened_store, closed_store, stored, record_in, opening_plan_of, closing_plan_of, OpenedByPlan, ClosedByPlan, sought-is, found_by, opens, closes, opened-table}

-- ---- what the code answers

module _ (t : Table) (id : StreamId) where
  opening-found : opening_by (lookup_of (sought id) t) (lowest_free t) id ≡ opening_of t id
  unfolding opening_by opening_of
  opening-found = found_by t id (λ l. opening_by l (lowest_free t) id) _ (λ q n. open_entry n (lowest_free t)) (λ n. refl)

  closing-found : (side : Side) → closing_by (lookup_of (sought id) t) id side ≡ closing_of t id side
  unfolding closing_by closing_of
  closing-found side = found_by t id (λ l. closing_by l id side) _ (λ q. close_entry side) (λ n. refl)

  pub standing-found : standing_by (lookup_of (sought id) t) id ≡ standing_of t id
  unfolding standing_by standing_of
  standing-found = found_by t id (λ l. standing_by l id) _ (λ q. stand_entry) (λ n. refl)

-- ---- what it stores

pub opened_by_plan : OpenedByPlan
unfolding opening_plan_of opened_store stored table_opened
opened_by_plan t id semantics = (
  opening-found t id,
  ap (λ (o : (Result ℕ Refusal)). stored t (opened_store o (opened (record { 0 = sought id }) semantics))) (opening-found t id) ∙ go (opening_of t id) refl,
)
  where
    go : (o : (Result ℕ Refusal)) → opening_of t id ≡ o → stored t (opened_store o (opened (record { 0 = sought id }) semantics)) ≡ table_opened t id semantics o
    go (Err r) e = refl
    go (Ok i) e =
        let o = opens t id i e in
        ap (λ (q : Quarter). set t i (opened q semantics)) (sought-is id o.quarter o.is) ∙ sym (opened-table t id semantics o.quarter i o.is)

pub closed_by_plan : ClosedByPlan
unfolding closing_plan_of closed_store stored table_closed lookup_of record_in entry_at
closed_by_plan t id side = (
  closing-found t id side,
  ap (λ (c : (Result SideClosed Refusal)). stored t (closed_store c (closed_side side (record_in (lookup_of (sought id) t))))) (closing-found t id side) ∙ go (closing_of t id side) refl,
)
  where
    go : (c : (Result SideClosed Refusal)) → closing_of t id side ≡ c → stored t (closed_store c (closed_side side (record_in (lookup_of (sought id) t)))) ≡ table_closed t side c
    go (Err r) e = refl
    go (Ok side') e =
        let o = closes t id side side'.place side'.freed e in
        let n : find (sought id) t ≡ Some side'.place = ap (λ (q : Quarter). find q.0 t) (sought-is id o.quarter o.is) ∙ o.found in
        ap (λ (r : StreamRecord). set t side'.place (closed_side side r)) (λ k. record_in (cond (o.good k) (Err bad_table) (Ok (entry_at t (n k)))))
