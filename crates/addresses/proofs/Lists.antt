-- Entries one after another. Assumes nothing.
use Rattle.walks.proofs.Words.{◌≡◌, refl, sym, ap, ◌∙◌, Bool, true, false, ◌&&◌, and-false, Option, None, Some, option_map, ℕ, zero, suc, ◌<◌, arith, List, [], ◌∷◌, map, length}
use Rattle.addresses.proofs.Terms.{Step, done, malformed, next, ahead, onwards, entries_by, entries, are_good}

-- by `cc`, from two constructors that would be equal
pub impossible {ℓ} : {X : Type ℓ} → ◌≡◌ {A = ℕ} 0 1 → X
impossible z = absurd (let n : ⊥ = omega arith in n)

pub both : (a b : Bool) → a && b ≡ true → (a ≡ true) × (b ≡ true)
both true b e = (refl, e)
both false b e = impossible (cc)

-- an entry takes at least one byte
abbrev pub Shrinks : {A : Type 0} → (List ℕ → Step A) → Type 0
Shrinks {A} read = (v rest : List ℕ) (e : A) → read v ≡ next e rest → length rest < length v

module _ {A : Type 0} (read : List ℕ → Step A) (shrinks : Shrinks read) where
  by_next : (f : ℕ) (v rest : List ℕ) (a : A) → read v ≡ next a rest → entries_by read (suc f) v ≡ ahead a (entries_by read f rest)
  unfolding entries_by onwards
  by_next f v rest a e = rw e

  -- enough fuel is enough
  fuel : (f g : ℕ) (v : List ℕ) → length v < f → length v < g → entries_by read f v ≡ entries_by read g v
  fuel zero g v l m = absurd (let z : ⊥ = omega arith in z)
  fuel (suc f) zero v l m = absurd (let z : ⊥ = omega arith in z)
  fuel (suc f) (suc g) v l m = go (λ t. fuel f g t) (read v) refl
    where
      go : ((t : List ℕ) → length t < f → length t < g → entries_by read f t ≡ entries_by read g t) → (s : Step A) → read v ≡ s → entries_by read (suc f) v ≡ entries_by read (suc g) v
      go again done e = unfold entries_by onwards in rw e
      go again malformed e = unfold entries_by onwards in rw e
      go again (next a rest) e =
          let k = shrinks v rest a e in
          by_next f v rest a e ∙ ap (ahead a) (again rest (omega arith) (omega arith)) ∙ sym (by_next g v rest a e)

  pub entries-end : (v : List ℕ) → read v ≡ done → entries read v ≡ Some []
  unfolding entries entries_by onwards
  entries-end v e = rw e

  pub entries_malformed : (v : List ℕ) → read v ≡ malformed → entries read v ≡ None
  unfolding entries entries_by onwards
  entries_malformed v e = rw e

  pub entries_next : (v rest : List ℕ) (a : A) → read v ≡ next a rest → entries read v ≡ ahead a (entries read rest)
  unfolding entries
  entries_next v rest a e =
      let k = shrinks v rest a e in
      by_next (length v) v rest a e ∙ ap (ahead a) (fuel (length v) (suc (length rest)) rest k (omega arith))

  -- a rule over a value's entries, an entry at a time
  module _ (good : List A → Bool) (v : List ℕ) where
    pub judged-end : read v ≡ done → are_good good (entries read v) ≡ good []
    unfolding are_good
    judged-end e = rw (entries-end v e)

    pub judged_malformed : read v ≡ malformed → are_good good (entries read v) ≡ false
    unfolding are_good
    judged_malformed e = rw (entries_malformed v e)

    pub judged-next : (rest : List ℕ) (a : A) (t : Bool) (more : List A → Bool) → ((es : List A) → good (a ∷ es) ≡ t && more es) → read v ≡ next a rest
        → are_good good (entries read v) ≡ t && are_good more (entries read rest)
    judged-next rest a t more f e = ap (are_good good) (entries_next v rest a e) ∙ go (entries read rest)
      where
        go : (es : Option (List A)) → are_good good (ahead a es) ≡ t && are_good more es
        go None = unfold are_good ahead in sym (and-false t)
        go (Some es) = unfold are_good ahead in f es

pub map-ahead : {A B : Type 0} (form : A → B) (e : A) (es : Option (List A)) → option_map (map form) (ahead e es) ≡ ahead (form e) (option_map (map form) es)
unfolding ahead
map-ahead form e None = refl
map-ahead form e (Some es) = refl

unfoldable pub map_step : {A B : Type 0} → (A → B) → Step A → Step B
map_step form done = done
map_step form malformed = malformed
map_step form (next e rest) = next (form e) rest

-- two readings that go together
module _ {A B : Type 0} (form : A → B) (read : List ℕ → Step A) (other : List ℕ → Step B) (alike : (v : List ℕ) → other v ≡ map_step form (read v)) where
  map_by : (fuel : ℕ) (v : List ℕ) → option_map (map form) (entries_by read fuel v) ≡ entries_by other fuel v
  unfolding entries_by onwards map_step
  map_by zero v = refl
  map_by (suc fuel) v = rw (alike v) (go (map_by fuel) (read v))
    where
      go : ((t : List ℕ) → option_map (map form) (entries_by read fuel t) ≡ entries_by other fuel t) → (s : Step A)
          → option_map (map form) (onwards s (entries_by read fuel)) ≡ onwards (map_step form s) (entries_by other fuel)
      go again done = refl
      go again malformed = refl
      go again (next e rest) = map-ahead form e (entries_by read fuel rest) ∙ ap (ahead (form e)) (again rest)

  pub entries-map : (v : List ℕ) → option_map (map form) (entries read v) ≡ entries other v
  unfolding entries
  entries-map v = map_by (suc (length v)) v
