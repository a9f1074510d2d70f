-- An answer that goes through its list of refusals one by one is refused by the first that holds. Assumes nothing.
use Rattle.walks.proofs.Words.{ℕ, ◌≤◌, ◌<◌, arith, ◌≡◌, refl, sym, ap, Bool, true, false, cond, ◌↔◌, inl, inr, [], ◌∷◌, leb, ltb, leb-true, leb-false, ltb-true, ltb-false}
use Rattle.refusals.specs.{declared.Refusal.Refusal, Numbers.refusal, First.Order, First.Refuses}

-- ---- tests and conditions

-- a condition that holds exactly where a test is true, and one that holds exactly where it is false
pub record When (test : Bool) (Holds : Type 0) : Type 0 where
  pub on : test ≡ true → Holds
  pub off : test ≡ false → Holds → ⊥

pub record Unless (test : Bool) (Holds : Type 0) : Type 0 where
  pub on : test ≡ false → Holds
  pub off : test ≡ true → Holds → ⊥

differ : (t : Bool) → t ≡ true → t ≡ false → ⊥
differ t p q = let e : ◌≡◌ {A = ℕ} 0 1 = cc in omega arith

pub when : (t : Bool) {C : Type 0} → (t ≡ true) ↔ C → When t C
when t h = record { on = h.0; off = λ e c. differ t (h.1 c) e }

pub unless : (t : Bool) {C : Type 0} → (t ≡ true) ↔ C → Unless t (C → ⊥)
unless t h = record { on = λ e c. differ t (h.1 c) e; off = λ e n. n (h.0 e) }

pub when_true : (t : Bool) → When t (t ≡ true)
when_true t = when t (λ e. e, λ e. e)

pub unless_false : (t : Bool) → Unless t (t ≡ false)
unless_false t = record { on = λ e. e; off = differ t }

pub when_less : (a b : ℕ) → When (ltb a b) (a < b)
when_less a b = record { on = ltb-true a b; off = λ e h. let l : b ≤ a = ltb-false a b e in omega arith }

pub unless_above : (a b : ℕ) → Unless (leb a b) (b < a)
unless_above a b = record { on = leb-false a b; off = λ e h. let l : a ≤ b = leb-true a b e in omega arith }

-- ---- a call that is refused with n where `refused n`

module _ {refused : ℕ → Type 0} where
  pub passes : ((n : ℕ) → refused n → ⊥) → Refuses refused []
  passes h = record { exactly = λ n. (h n, λ z. absurd z); otherwise = (λ z. tt, λ z. h) }

  module _ {m : ℕ} {C : Type 0} {rest : Order} where
    pub stops : C → ((n : ℕ) → refused n ↔ (n ≡ m)) → Refuses refused ((m, C) ∷ rest)
    stops c h = record {
      exactly = λ n. (λ r. inl ((h n).0 r, c), λ f. elim f [ inl e ↦ (h n).1 e.0 | inr e ↦ absurd (e.0 c) ]);
      otherwise = (λ none. absurd (none m ((h m).1 refl)), λ none. absurd (none.0 c));
    }

    pub goes_on : (C → ⊥) → Refuses refused rest → Refuses refused ((m, C) ∷ rest)
    goes_on not_held r = record {
      exactly = λ n. (λ a. inr (not_held, (r.exactly n).0 a), λ f. elim f [ inl e ↦ absurd (not_held e.1) | inr e ↦ (r.exactly n).1 e.1 ]);
      otherwise = (λ none. (not_held, r.otherwise.0 none), λ none. r.otherwise.1 none.1);
    }

-- ---- an answer by a test

-- a refusal is one number's
pub only : {A : Type 0} (Refused : Refusal → A) → ((a b : Refusal) → Refused a ≡ Refused b → a ≡ b) → (m n : ℕ) → (Refused (refusal m) ≡ Refused (refusal n)) ↔ (n ≡ m)
only Refused same m n = (λ e. ap (λ (r : Refusal). r.0) (sym (same (refusal m) (refusal n) e)), λ e. ap (λ (k : ℕ). Refused (refusal k)) (sym e))

module _ {X : Type 0} (refused : X → ℕ → Type 0) {t : Bool} {x y : X} {m : ℕ} {C : Type 0} {rest : Order} where
  -- refused with m where the test is true
  pub stops_when : When t C → ((n : ℕ) → refused x n ↔ (n ≡ m)) → (t ≡ false → Refuses (refused y) rest) → Refuses (refused (cond t x y)) ((m, C) ∷ rest)
  stops_when d h r = go t refl
    where
      go : (b : Bool) → t ≡ b → Refuses (refused (cond b x y)) ((m, C) ∷ rest)
      go true e = stops (d.on e) h
      go false e = goes_on (d.off e) (r e)

  -- and where it is false
  pub stops_unless : Unless t C → ((n : ℕ) → refused y n ↔ (n ≡ m)) → (t ≡ true → Refuses (refused x) rest) → Refuses (refused (cond t x y)) ((m, C) ∷ rest)
  stops_unless d h r = go t refl
    where
      go : (b : Bool) → t ≡ b → Refuses (refused (cond b x y)) ((m, C) ∷ rest)
      go true e = goes_on (d.off e) (r e)
      go false e = stops (d.on e) h
