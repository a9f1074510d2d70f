-- The first record that has a property: a search of a table is one, and so is a test of all its records. Assumes nothing.
use Rattle.std.specs.Prelude.{Option, Some, None}
use Rattle.walks.proofs.Words.{◌≡◌, refl, sym, ap, subst, ◌∙◌, ℕ, zero, suc, ◌<◌, arith, Bool, true, false, cond, not, ◌||◌, [], ◌∷◌, length, get_or}
use Rattle.stream_records.proofs.Terms.{StreamRecord, blank, flag, is_used, is_bad_record, holds, Table, any_bad, stands_in, next, find, lowest_free, FindRight, FindNothing}

unfoldable pub first : (StreamRecord → Bool) → Table → Option ℕ
first p [] = None
first p (r ∷ rs) = cond (p r) (Some 0) (next (first p rs))

-- ---- what is a first one

pub find_first : (q : ℕ) (t : Table) → find q t ≡ first (holds q) t
unfolding find first
find_first q [] = refl
find_first q (r ∷ rs) = ap (λ (f : Option ℕ). cond (holds q r) (Some 0) (next f)) (find_first q rs)

abbrev pub is_free : StreamRecord → Bool
is_free r = not (is_used r)

turned : (u : Bool) (f : Option ℕ) → cond u (next f) (Some 0) ≡ cond (not u) (Some 0) (next f)
turned true f = refl
turned false f = refl

pub lowest_first : (t : Table) → lowest_free t ≡ first is_free t
unfolding lowest_free first
lowest_first [] = refl
lowest_first (r ∷ rs) = turned (is_used r) (lowest_free rs) ∙ ap (λ (f : Option ℕ). cond (is_free r) (Some 0) (next f)) (lowest_first rs)

unfoldable pub is_at : Option ℕ → Bool
is_at None = false
is_at (Some i) = true

either : (b : Bool) (f : Option ℕ) → (b || is_at f) ≡ is_at (cond b (Some 0) (next f))
unfolding is_at next
either true f = refl
either false None = refl
either false (Some i) = refl

pub stands-first : (q : ℕ) (t : Table) → stands_in q t ≡ is_at (first (holds q) t)
unfolding stands_in first is_at
stands-first q [] = refl
stands-first q (r ∷ rs) = ap (λ (b : Bool). holds q r || b) (stands-first q rs) ∙ either (holds q r) (first (holds q) rs)

pub any_first : (t : Table) → any_bad t ≡ is_at (first is_bad_record t)
unfolding any_bad first is_at
any_first [] = refl
any_first (r ∷ rs) = ap (λ (b : Bool). is_bad_record r || b) (any_first rs) ∙ either (is_bad_record r) (first is_bad_record rs)

-- ---- what it is to be first

pub no_place {ℓ} : {X : Type ℓ} {i : ℕ} → None ≡ Some i → X
no_place e = let z : ◌≡◌ {A = ℕ} 0 1 = cc in absurd (let n : ⊥ = omega arith in n)

pub record First (p : StreamRecord → Bool) (t : Table) (i : ℕ) : Type 0 where
  pub within : i < length t
  pub here : p (get_or t i blank) ≡ true
  pub below : (k : ℕ) → k < i → p (get_or t k blank) ≡ false

module _ (p : StreamRecord → Bool) where
  abbrev NoneBelow : Table → ℕ → Type 0
  NoneBelow t n = (k : ℕ) → k < n → p (get_or t k blank) ≡ false

  one_more : (r : StreamRecord) (rs : Table) (n : ℕ) → p r ≡ false → NoneBelow rs n → NoneBelow (r ∷ rs) (suc n)
  one_more r rs n h b zero l = h
  one_more r rs n h b (suc k) l = b k (omega arith)

  at_cons : (r : StreamRecord) (rs : Table) (i : ℕ) → ((j : ℕ) → first p rs ≡ Some j → First p rs j)
      → (b : Bool) → p r ≡ b → (f : Option ℕ) → first p rs ≡ f → cond b (Some 0) (next f) ≡ Some i → First p (r ∷ rs) i
  unfolding next
  at_cons r rs i more true h f g e =
      let z : 0 ≡ i = cc in
      subst (First p (r ∷ rs)) z (record { within = omega arith; here = h; below = λ k l. absurd (let n : ⊥ = omega arith in n) })
  at_cons r rs i more false h (Some j) g e =
      let z : suc j ≡ i = cc in
      let s = more j g in
      subst (First p (r ∷ rs)) z (record { within = omega (arith, s.within); here = s.here; below = one_more r rs j h s.below })
  at_cons r rs i more false h None g e = no_place e

  pub first-at : (t : Table) (i : ℕ) → first p t ≡ Some i → First p t i
  unfolding first
  first-at [] i e = no_place e
  first-at (r ∷ rs) i e = at_cons r rs i (first-at rs) (p r) refl (first p rs) refl e

  pub first-is : (t : Table) (i : ℕ) → First p t i → first p t ≡ Some i
  unfolding first next
  first-is [] i f = absurd (let n : ⊥ = omega (arith, f.within) in n)
  first-is (r ∷ rs) zero f = rw f.here
  first-is (r ∷ rs) (suc i) f =
      let b = f.below in
      rw (b 0 (omega arith), first-is rs i (record { within = omega (arith, f.within); here = f.here; below = λ k l. b (suc k) (omega arith) }))

  pub none_is : (t : Table) → NoneBelow t (length t) → first p t ≡ None
  unfolding first next
  none_is [] h = refl
  none_is (r ∷ rs) h = rw (h 0 (omega arith), none_is rs (λ k l. h (suc k) (omega arith)))

  -- at the places of which K says so
  none_cons : (K : ℕ → Type 0) (r : StreamRecord) (rs : Table) → (first p rs ≡ None → (k : ℕ) → K (suc k) → p (get_or rs k blank) ≡ false)
      → (b : Bool) → p r ≡ b → (f : Option ℕ) → first p rs ≡ f → cond b (Some 0) (next f) ≡ None → (k : ℕ) → K k → p (get_or (r ∷ rs) k blank) ≡ false
  unfolding next
  none_cons K r rs more true h f g e k l = no_place (sym e)
  none_cons K r rs more false h (Some j) g e k l = no_place (sym e)
  none_cons K r rs more false h None g e zero l = h
  none_cons K r rs more false h None g e (suc k) l = more g k l

  -- past the end stands the blank
  pub first_none : p blank ≡ false → (t : Table) → first p t ≡ None → (k : ℕ) → p (get_or t k blank) ≡ false
  unfolding first
  first_none h [] e k = h
  first_none h (r ∷ rs) e k = none_cons (λ _. Unit {0}) r rs (λ g j _. first_none h rs g j) (p r) refl (first p rs) refl e k tt

  pub none_below : (t : Table) → first p t ≡ None → NoneBelow t (length t)
  unfolding first
  none_below [] e k l = absurd (let n : ⊥ = omega arith in n)
  none_below (r ∷ rs) e k l = none_cons (λ j. j < length (r ∷ rs)) r rs (λ g j m. none_below rs g j (omega arith)) (p r) refl (first p rs) refl e k l

pub find_right : FindRight
find_right q i t e = let f = first-at (holds q) t i (sym (find_first q t) ∙ e) in (f.here, f.within)

pub find-nothing : FindNothing
unfolding holds flag
find-nothing q t e = first_none (holds q) refl t (sym (find_first q t) ∙ e)
