-- Where a stream stands: the place that is found, from the answer and to it (`find_right`, `found_once`). Assumes nothing.
use Rattle.std.specs.Prelude.{Option, Some, None, Result, Ok, Err}
use Rattle.refusals.specs.declared.Refusal.{Refusal}
use Rattle.walks.proofs.Words.{◌≡◌, refl, ap, ◌∙◌, ℕ, ◌/◌, ◌<◌, arith, Bool, true, false, cond, length, get_or}
use Rattle.stream_records.proofs.Terms.{bad_table, StreamId, is_request, quarter_of, blank, holds, standing_of, Table, is_bad, find, entry_at, entry_of, stand_entry, StandsExactly}
use Rattle.stream_records.proofs.{Places.find_right, Decisions.stand_if, Goodness.found_once}

nowhere {ℓ} : {X : Type ℓ} {n : Refusal} {i : ℕ} → ◌≡◌ {A = Result ℕ Refusal} (Err n) (Ok i) → X
nowhere e = let z : ◌≡◌ {A = ℕ} 0 1 = cc in absurd (let n : ⊥ = omega arith in n)

module _ (t : Table) (id : StreamId) (i : ℕ) where
  abbrev Stands : Type 0
  Stands = (is_bad t ≡ false) × (is_request id.0 ≡ true) × (i < length t) × (holds (id.0 / 4) (get_or t i blank) ≡ true)

  there : is_bad t ≡ false → is_request id.0 ≡ true → (f : Option ℕ) → find (id.0 / 4) t ≡ f → stand_entry (entry_at t f) ≡ Ok i → Stands
  unfolding stand_entry entry_at
  there b h None y z = nowhere z
  there b h (Some j) y z =
      let s : j ≡ i = cc in
      let f = find_right (id.0 / 4) i t (y ∙ ap Some s) in
      (b, h, f.1, f.0)

  from : (b : Bool) → is_bad t ≡ b → (h : Bool) → is_request id.0 ≡ h → cond b (Err bad_table) (stand_if (λ q. entry_of q.0 t) (cond h (Some (record { 0 = id.0 / 4 })) None)) ≡ Ok i → Stands
  from true b h x z = nowhere z
  from false b false x z = nowhere z
  from false b true x z = there b x (find (id.0 / 4) t) refl z

pub stands_exactly : StandsExactly
unfolding standing_of stand_entry entry_at quarter_of
stands_exactly t id i = (
  λ e. from t id i (is_bad t) refl (is_request id.0) refl e,
  λ b h s. rw (b, h, standing_of, found_once (id.0 / 4) i t b s),
)
