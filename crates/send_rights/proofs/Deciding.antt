-- Who may send, as the code decides it by what was looked up. Assumes nothing.
use Rattle.std.specs.Prelude.{Option, Some, None, Result, Ok, Err}
use Rattle.refusals.specs.declared.Refusal.{Refusal}
use Rattle.walks.proofs.Words.{◌≡◌, refl, ap, ◌∙◌, ℕ, ◌≤◌, arith, Bool, true, false, cond}
use Rattle.send_rights.proofs.Terms.{not_a_request_stream, frames_not_agreed, send_side_closed, no_semantics, StreamId, Quarter, largest_quarter, quarter_of, quarter_bounded, StreamRecord, Entry, send_open, has_semantics, Table, lookup_of, sought, found_by, sending_record, sending_entry, sending_of, sending_by}

pub sends : (t : Table) (id : StreamId) (s : Bool) → sending_by (lookup_of (sought id) t) id s ≡ sending_of t id s
unfolding sending_by sending_of
sends t id s = found_by t id (λ l. sending_by l id s) _ (λ q n. sending_entry n q s) (λ n. refl)

-- ---- a stream that may be sent to: its quarter, which is one

zero_one {ℓ} : {X : Type ℓ} → ◌≡◌ {A = ℕ} 0 1 → X
zero_one e = absurd (let n : ⊥ = omega arith in n)

sent_record : (r : StreamRecord) (q p : Quarter) (s : Bool) → sending_record r q s ≡ Ok p → q ≡ p
unfolding sending_record
sent_record r q p s e = go s (send_open r) (has_semantics r) e
  where
    go : (s a b : Bool) → cond s (cond a (cond b (Ok q) (Err no_semantics)) (Err send_side_closed)) (Err frames_not_agreed) ≡ Ok p → q ≡ p
    go true true true d = cc
    go true true false d = zero_one cc
    go true false b d = zero_one cc
    go false a b d = zero_one cc

sent-entry : (e : Option Entry) (q p : Quarter) (s : Bool) → sending_entry e q s ≡ Ok p → q ≡ p
unfolding sending_entry
sent-entry None q p s d = zero_one cc
sent-entry (Some found) q p s d = sent_record found.stream q p s d

pub sent-to : (l : Result (Option Entry) Refusal) (id : StreamId) (s : Bool) (q : Quarter) → sending_by l id s ≡ Ok q → quarter_of id ≡ Some q
unfolding sending_by
sent-to (Err why) id s q d = zero_one cc
sent-to (Ok e) id s q d = go (quarter_of id) refl d
  where
    go : (x : Option Quarter) → quarter_of id ≡ x → ◌≡◌ {A = Result Quarter Refusal} (elim x [ None ↦ Err not_a_request_stream | Some p ↦ sending_entry e p s ]) (Ok q) → quarter_of id ≡ Some q
    go None h d = zero_one cc
    go (Some p) h d = h ∙ ap Some (sent-entry e p q s d)

pub sent_bounded : (l : Result (Option Entry) Refusal) (id : StreamId) (s : Bool) (q : Quarter) → sending_by l id s ≡ Ok q → q.0 ≤ largest_quarter
sent_bounded l id s q d = quarter_bounded id q (sent-to l id s q d)

pub sending_to : (t : Table) (id : StreamId) (s : Bool) (q : Quarter) → sending_of t id s ≡ Ok q → quarter_of id ≡ Some q
sending_to t id s q d = sent-to (lookup_of (sought id) t) id s q (sends t id s ∙ d)
