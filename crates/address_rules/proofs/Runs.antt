-- Addresses compared byte by byte. Assumes nothing.
use Rattle.walks.proofs.Words.{◌≡◌, refl, sym, ap, ◌∙◌, Bool, true, false, ℕ, suc, ◌+◌, ◌*◌, ◌^◌, ◌≤◌, ◌<◌, ◌⊎◌, ⊎_elim, mul-le-mul_right, arith, List, [], ◌∷◌, length, ltb, lt-ltb, le-ltb, ltb-true, ltb-false}
use Rattle.address_rules.proofs.Terms.{Bytes, num, num_lt, num_cons}

num-first-less : (x y : ℕ) (s t : List ℕ) → length s ≡ length t → Bytes s → x < y → num (x ∷ s) < num (y ∷ t)
num-first-less x y s t l bs h =
    let p : suc x * 256 ^ length s ≤ y * 256 ^ length s = mul-le-mul_right (256 ^ length s) h in
    let q : suc x * 256 ^ length s ≡ x * 256 ^ length s + 256 ^ length s = omega arith in
    rw (num_cons x s, num_cons y t, ← l) (omega (arith, num_lt s bs))

num-first_same : (x : ℕ) (s t : List ℕ) → length s ≡ length t → ltb (num (x ∷ s)) (num (x ∷ t)) ≡ ltb (num s) (num t)
num-first_same x s t l = go (ltb (num s) (num t)) refl
  where
    go : (b : Bool) → ltb (num s) (num t) ≡ b → ltb (num (x ∷ s)) (num (x ∷ t)) ≡ ltb (num s) (num t)
    go true e =
        let h = ltb-true (num s) (num t) e in
        lt-ltb (num (x ∷ s)) (num (x ∷ t)) (rw (num_cons x s, num_cons x t, ← l) (omega arith)) ∙ sym e
    go false e =
        let h = ltb-false (num s) (num t) e in
        le-ltb (num (x ∷ s)) (num (x ∷ t)) (rw (num_cons x s, num_cons x t, ← l) (omega arith)) ∙ sym e

-- ---- two addresses that are equally long, from a place on

-- what is left of them compares as the whole
abbrev pub Left : List ℕ → List ℕ → List ℕ → List ℕ → Type 0
Left s t a b = length a ≡ length b → (length s ≡ length t) × Bytes s × Bytes t × (ltb (num s) (num t) ≡ ltb (num a) (num b))

pub left_whole : (a b : List ℕ) → Bytes a → Bytes b → Left a b a b
left_whole a b p q h = (h, p, q, refl)

module _ (s t a b : List ℕ) (g : Left s t a b) where
  pub left_none : (s ≡ []) ⊎ (t ≡ []) → length a ≡ length b → false ≡ ltb (num a) (num b)
  left_none e h = go s t e (g h).0 ∙ (g h).3
    where
      go : (s t : List ℕ) → (s ≡ []) ⊎ (t ≡ []) → length s ≡ length t → false ≡ ltb (num s) (num t)
      go [] [] e l = sym (le-ltb (num []) (num []) (omega arith))
      go [] (y ∷ t) e l = absurd (omega arith)
      go (x ∷ s) [] e l = absurd (omega arith)
      go (x ∷ s) (y ∷ t) e l = ⊎_elim (λ f. absurd (omega (arith, ap length f))) (λ f. absurd (omega (arith, ap length f))) e

  module _ (x y : ℕ) (u v : List ℕ) (is_s : s ≡ x ∷ u) (is_t : t ≡ y ∷ v) where
    long : length a ≡ length b → length u ≡ length v
    long h = omega (arith, (g h).0, ap length is_s, ap length is_t)

    pub left_first : (x ≡ y → ⊥) → (r : Bool) → r ≡ ltb x y → length a ≡ length b → r ≡ ltb (num a) (num b)
    left_first n r d h = d ∙ go (ltb x y) refl ∙ rw (is_s, is_t) at (g h).3
      where
        go : (c : Bool) → ltb x y ≡ c → ltb x y ≡ ltb (num (x ∷ u)) (num (y ∷ v))
        go true e = e ∙ sym (lt-ltb _ _ (num-first-less x y u v (long h) (rw is_s at (g h).1).1 (ltb-true x y e)))
        go false e =
            let m : y ≤ x = ltb-false x y e in
            let l : y < x = omega arith in
            let k = num-first-less y x v u (sym (long h)) (rw is_t at (g h).2).1 l in
            e ∙ sym (le-ltb (num (x ∷ u)) (num (y ∷ v)) (omega arith))

    pub left_on : x ≡ y → Left u v a b
    left_on e h = (long h, (rw is_s at (g h).1).1, (rw is_t at (g h).2).1, sym (num-first_same x u v (long h)) ∙ ap (λ (n : ℕ). ltb (num (x ∷ u)) (num (n ∷ v))) e ∙ rw (is_s, is_t) at (g h).3)
