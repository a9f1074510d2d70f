-- The lowest free place, sought from the first record on: what is known when the records below i are used. Assumes nothing.
use Rattle.std.specs.Prelude.{Some, None}
use Rattle.walks.proofs.Words.{◌≡◌, refl, sym, ap, ◌∙◌, ℕ, ◌+◌, ◌<◌, ◌≤◌, arith, Bool, true, false, not, length, get_or, eqb, eqb-true, eqb-false}
use Rattle.streams.proofs.Terms.{blank, is_used, Table, lowest_free, UsedBelow, is_free, lowest_first, first-is, none_is}

module _ (t : Table) where
  pub record Below (i : ℕ) : Type 0 where
    pub within : i ≤ length t
    pub used : UsedBelow t i

  pub below-first : Below 0
  below-first = record { within = omega arith; used = λ k l. absurd (let n : ⊥ = omega arith in n) }

  module _ (i : ℕ) (h : Below i) where
    pub below_more : (i ≡ length t → ⊥) → i < length t
    below_more n = omega (arith, h.within)

    pub below_next : i < length t → is_used (get_or t i blank) ≡ true → Below (i + 1)
    below_next l e = record { within = omega arith; used = λ k m. go k m (eqb k i) refl }
      where
        go : (k : ℕ) → k < i + 1 → (b : Bool) → eqb k i ≡ b → is_used (get_or t k blank) ≡ true
        go k m true x = rw (eqb-true k i x) e
        go k m false x = let n = eqb-false k i x in h.used k (omega arith)

    pub below_free : i < length t → is_used (get_or t i blank) ≡ false → Some i ≡ lowest_free t
    below_free l e = sym (lowest_first t ∙ first-is is_free t i (record { within = l; here = ap not e; below = λ k m. ap not (h.used k m) }))

    pub below_none : i ≡ length t → None ≡ lowest_free t
    below_none e = sym (lowest_first t ∙ none_is is_free t (λ k l. ap not (h.used k (omega arith))))
