-- What stands in a table is what is found in it: from the answer of `find` to the words, and back. Assumes nothing.
use Rattle.std.specs.Prelude.{Option, Some, None}
use Rattle.walks.proofs.Words.{◌≡◌, refl, sym, subst, ◌∙◌, ℕ, false, true≢false, ◌↔◌, get_or}
use Rattle.stream_records.proofs.Terms.{StreamRecord, blank, InTable, Any, Table, is_bad, find}
use Rattle.stream_records.proofs.{Places.find_right, Places.find-nothing, Goodness.held, Goodness.holds_so, Goodness.found_once}

module _ (t : Table) (q : ℕ) where
  module _ (P : StreamRecord → Type 0) where
    pub in_table : (i : ℕ) → find q t ≡ Some i → P (get_or t i blank) → InTable t q P
    in_table i f p = let h = held q (get_or t i blank) (find_right q i t f).0 in (i, h.0, h.1, p)

    pub not_in_table_lem : find q t ≡ None → InTable t q P → ⊥
    not_in_table_lem f s = true≢false (sym (holds_so q (get_or t s.0 blank) s.1 s.2) ∙ find-nothing q t f s.0)

    -- in a good table the record is the one at the place that is found
    pub at_place : (i : ℕ) → is_bad t ≡ false → find q t ≡ Some i → InTable t q P ↔ P (get_or t i blank)
    at_place i b f = (
      λ s.
          let e : s.0 ≡ i = cc (found_once q s.0 t b (holds_so q (get_or t s.0 blank) s.1 s.2)) in
          subst (λ (k : ℕ). P (get_or t k blank)) e s.3,
      in_table i f,
    )

  pub nothing_exactly : (find q t ≡ None) ↔ (InTable t q Any → ⊥)
  nothing_exactly = (not_in_table_lem Any, λ n. go (find q t) refl n)
    where
      go : (f : Option ℕ) → find q t ≡ f → (InTable t q Any → ⊥) → find q t ≡ None
      go None e n = e
      go (Some i) e n = absurd (n (in_table Any i e tt))

  pub found_exactly : ((i : ℕ) × (find q t ≡ Some i)) ↔ InTable t q Any
  found_exactly = (λ h. in_table Any h.0 h.1 tt, λ s. go (find q t) refl s)
    where
      go : (f : Option ℕ) → find q t ≡ f → InTable t q Any → (i : ℕ) × (find q t ≡ Some i)
      go None e s = absurd (not_in_table_lem Any e s)
      go (Some i) e s = (i, e)
