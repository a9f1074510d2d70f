-- Buckets of quarters, marked from the first record to the last. Assumes nothing.
use Prim.{Unit}
use Rattle.walks.proofs.Words.{◌≡◌, refl, subst, ◌∙◌, ℕ, ◌%◌, ◌<◌, Bool, true, false, ◌&&◌, List, [], ◌∷◌, ◌++◌, eqb, length, get_or, set, get_or-set_same, get_or-set_other, eqb-true, eqb-false}
use Rattle.stream_survey.proofs.Terms.{StreamRecord, is_used, holds, Table, stands_in}

abbrev pub bucket : StreamRecord → ℕ
bucket r = r.quarter.0 % 256

-- the bucket of each used record is marked
unfoldable pub Marked : List Bool → Table → Type 0
Marked seen [] = Unit
Marked seen (r ∷ rs) = (is_used r ≡ true → get_or seen (bucket r) false ≡ true) × Marked seen rs

module _ (seen : List Bool) where
  not_held : (q : ℕ) (r : StreamRecord) → (is_used r ≡ true → get_or seen (bucket r) false ≡ true) → (get_or seen (q % 256) false ≡ true → ⊥) → holds q r ≡ false
  unfolding holds
  not_held q r m un = go (is_used r) refl (eqb r.quarter.0 q) refl
    where
      go : (u : Bool) → is_used r ≡ u → (e : Bool) → eqb r.quarter.0 q ≡ e → (is_used r && eqb r.quarter.0 q) ≡ false
      go false x e y = rw x
      go true x false y = rw (x, y)
      go true x true y = absurd (un (subst (λ (k : ℕ). get_or seen (k % 256) false ≡ true) (eqb-true r.quarter.0 q y) (m x)))

  -- a quarter whose bucket is not marked does not stand there
  pub unmarked : (q : ℕ) (t : Table) → Marked seen t → (get_or seen (q % 256) false ≡ true → ⊥) → stands_in q t ≡ false
  unfolding Marked stands_in
  unmarked q [] m un = refl
  unmarked q (r ∷ rs) m un = rw (not_held q r m.0 un, unmarked q rs m.1 un)

  module _ (b : ℕ) (l : b < length seen) where
    still : (k : ℕ) → get_or seen k false ≡ true → get_or (set seen b true) k false ≡ true
    still k e = go (eqb k b) refl
      where
        go : (t : Bool) → eqb k b ≡ t → get_or (set seen b true) k false ≡ true
        go true x = rw (eqb-true k b x) (get_or-set_same seen b true false l)
        go false x = get_or-set_other seen b k true false (eqb-false k b x) ∙ e

    pub stay : (t : Table) → Marked seen t → Marked (set seen b true) t
    unfolding Marked
    stay [] m = tt
    stay (r ∷ rs) m = (λ u. still (bucket r) (m.0 u), stay rs m.1)

  pub marked_more : (r : StreamRecord) (t : Table) → Marked seen t → (is_used r ≡ true → get_or seen (bucket r) false ≡ true) → Marked seen (t ++ (r ∷ []))
  unfolding Marked
  marked_more r [] m k = (k, tt)
  marked_more r (x ∷ t) m k = (m.0, marked_more r t m.1 k)
