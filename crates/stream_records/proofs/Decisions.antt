-- What opening and closing come to, and from what; what the code stores is the table afterwards. Assumes nothing.
use Rattle.std.specs.Prelude.{Option, Some, None, Result, Ok, Err}
use Rattle.refusals.specs.declared.Refusal.{Refusal}
use Rattle.stream_records.specs.Tables.{side_closed}
use Rattle.walks.proofs.Words.{◌≡◌, refl, sym, ap, ◌∙◌, ℕ, arith, Bool, true, false, cond, get_or, set}
use Rattle.stream_records.proofs.Terms.{not_a_request_stream, bad_table, StreamId, Quarter, quarter_of, Side, Entry, SideClosed, blank, opened, both_closed, with_closed, lookup_of, sought_in, sought, Table, is_bad, find, entry_at, entry_of, lowest_free, open_at, open_entry, opening_of, close_entry, closing_of, stand_entry, table_opened}

-- ---- one step at a time

-- refused 7, or what the quarter comes to
abbrev pub if_request {ℓ} : {A : Type ℓ} → A → (Quarter → A) → Option Quarter → A
if_request r f x = elim x [ None ↦ r | Some q ↦ f q ]

abbrev pub open_if : (Quarter → Option Entry) → Option ℕ → Option Quarter → Result ℕ Refusal
open_if at free x = if_request (Err not_a_request_stream) (λ q. open_entry (at q) free) x

abbrev pub close_if : (Quarter → Option Entry) → Side → Option Quarter → Result SideClosed Refusal
close_if at side x = if_request (Err not_a_request_stream) (λ q. close_entry side (at q)) x

abbrev pub stand_if : (Quarter → Option Entry) → Option Quarter → Result ℕ Refusal
stand_if at x = if_request (Err not_a_request_stream) (λ q. stand_entry (at q)) x

-- ---- from an answer back

pub record Opens (t : Table) (id : StreamId) (i : ℕ) : Type 0 where
  pub good : is_bad t ≡ false
  pub quarter : Quarter
  pub is : quarter_of id ≡ Some quarter
  pub absent : find quarter.0 t ≡ None
  pub lowest : lowest_free t ≡ Some i

pub record Closes (t : Table) (id : StreamId) (side : Side) (i : ℕ) (freed : Bool) : Type 0 where
  pub good : is_bad t ≡ false
  pub quarter : Quarter
  pub is : quarter_of id ≡ Some quarter
  pub found : find quarter.0 t ≡ Some i
  pub frees : both_closed (with_closed side (get_or t i blank)) ≡ freed

no_opening {ℓ} : {X : Type ℓ} {n : Refusal} {i : ℕ} → ◌≡◌ {A = Result ℕ Refusal} (Err n) (Ok i) → X
no_opening e = let z : ◌≡◌ {A = ℕ} 0 1 = cc in absurd (let n : ⊥ = omega arith in n)

no_closing {ℓ} : {X : Type ℓ} {n : Refusal} {s : SideClosed} → ◌≡◌ {A = Result SideClosed Refusal} (Err n) (Ok s) → X
no_closing e = let z : ◌≡◌ {A = ℕ} 0 1 = cc in absurd (let n : ⊥ = omega arith in n)

module _ (t : Table) (id : StreamId) where
  pub opens : (i : ℕ) → opening_of t id ≡ Ok i → Opens t id i
  unfolding opening_of open_at open_entry entry_at
  opens i e = go (is_bad t) refl (quarter_of id) refl e
    where
      placed : is_bad t ≡ false → (q : Quarter) → quarter_of id ≡ Some q → find q.0 t ≡ None → (f : Option ℕ) → lowest_free t ≡ f → open_at f ≡ Ok i → Opens t id i
      placed b q x h None y z = no_opening z
      placed b q x h (Some j) y z = let s : j ≡ i = cc in record { good = b; quarter = q; is = x; absent = h; lowest = y ∙ ap Some s }

      free : is_bad t ≡ false → (q : Quarter) → quarter_of id ≡ Some q → (f : Option ℕ) → find q.0 t ≡ f → open_entry (entry_at t f) (lowest_free t) ≡ Ok i → Opens t id i
      free b q x (Some j) y z = no_opening z
      free b q x None y z = placed b q x y (lowest_free t) refl z

      go : (b : Bool) → is_bad t ≡ b → (x : Option Quarter) → quarter_of id ≡ x
          → cond b (Err bad_table) (open_if (λ q. entry_of q.0 t) (lowest_free t) x) ≡ Ok i → Opens t id i
      go true b x y z = no_opening z
      go false b None y z = no_opening z
      go false b (Some q) y z = free b q y (find q.0 t) refl z

  pub opened_so_lem : (i : ℕ) → Opens t id i → opening_of t id ≡ Ok i
  unfolding opening_of open_at open_entry entry_at
  opened_so_lem i o = rw (o.good, o.is, opening_of, o.absent, o.lowest)

  module _ (side : Side) (i : ℕ) (freed : Bool) where
    pub closes : closing_of t id side ≡ Ok (side_closed i freed) → Closes t id side i freed
    unfolding closing_of close_entry entry_at
    closes e = go (is_bad t) refl (quarter_of id) refl e
      where
        stands : is_bad t ≡ false → (q : Quarter) → quarter_of id ≡ Some q → (f : Option ℕ) → find q.0 t ≡ f → close_entry side (entry_at t f) ≡ Ok (side_closed i freed) → Closes t id side i freed
        stands b q x None y z = no_closing z
        stands b q x (Some j) y z =
            let same : side_closed j (both_closed (with_closed side (get_or t j blank))) ≡ side_closed i freed = cc in
            let s : j ≡ i = ap (λ (c : SideClosed). c.place) same in
            record { good = b; quarter = q; is = x; found = y ∙ ap Some s; frees = rw (sym s) (ap (λ (c : SideClosed). c.freed) same) }

        go : (b : Bool) → is_bad t ≡ b → (x : Option Quarter) → quarter_of id ≡ x
            → cond b (Err bad_table) (close_if (λ q. entry_of q.0 t) side x) ≡ Ok (side_closed i freed) → Closes t id side i freed
        go true b x y z = no_closing z
        go false b None y z = no_closing z
        go false b (Some q) y z = stands b q y (find q.0 t) refl z

    pub closed_so_lem : Closes t id side i freed → closing_of t id side ≡ Ok (side_closed i freed)
    unfolding closing_of close_entry entry_at
    closed_so_lem o = rw (o.good, o.is, closing_of, o.found, o.frees)

-- ---- the table afterwards

pub opened-table : (t : Table) (id : StreamId) (semantics : Bool) (q : Quarter) (i : ℕ) → quarter_of id ≡ Some q
    → table_opened t id semantics (Ok i) ≡ set t i (opened q semantics)
unfolding table_opened
opened-table t id semantics q i e = ap (if_request t (λ q. set t i (opened q semantics))) e

-- ---- by what was looked up

pub sought-is : (id : StreamId) (q : Quarter) → quarter_of id ≡ Some q → record { 0 = sought id } ≡ q
unfolding sought_in
sought-is id q e = ap (λ (x : Option Quarter). record { 0 = sought_in x }) e

module _ (t : Table) (id : StreamId) where
  -- what is found of the quarter that is looked for is what is found of the ID's
  same_entry {ℓ} : {A : Type ℓ} (r : A) (f : Quarter → Option Entry → A) (x : Option Quarter) → quarter_of id ≡ x → if_request r (λ q. f q (entry_of (sought id) t)) x ≡ if_request r (λ q. f q (entry_of q.0 t)) x
  same_entry r f None e = refl
  same_entry r f (Some q) e = ap (λ (p : Quarter). f q (entry_of p.0 t)) (sought-is id q e)

  -- an answer by what was looked up: refused 15, refused 7, or what the entry comes to
  pub found_by {ℓ} : {A : Type ℓ} (by : Result (Option Entry) Refusal → A) (none : A) (f : Quarter → Option Entry → A) → ((entry : Option Entry) → by (Ok entry) ≡ if_request none (λ q. f q entry) (quarter_of id))
      → by (lookup_of (sought id) t) ≡ cond (is_bad t) (by (Err bad_table)) (if_request none (λ q. f q (entry_of q.0 t)) (quarter_of id))
  unfolding lookup_of
  found_by by none f good = go (is_bad t)
    where
      go : (b : Bool) → by (cond b (Err bad_table) (Ok (entry_of (sought id) t))) ≡ cond b (by (Err bad_table)) (if_request none (λ q. f q (entry_of q.0 t)) (quarter_of id))
      go true = refl
      go false = good _ ∙ same_entry none f (quarter_of id) refl
