-- What cannot be: from an equation that no values meet, anything; and what an equation of two constructors says. Assumes nothing.
use Rattle.std.specs.Prelude.{Option, Some, Result, Ok}
use Rattle.walks.proofs.Words.{◌≡◌, ℕ, arith, true, false}

pub zero_one {ℓ} : {X : Type ℓ} → ◌≡◌ {A = ℕ} 0 1 → X
zero_one e = absurd (let n : ⊥ = omega arith in n)

pub no_true {ℓ} : {X : Type ℓ} → false ≡ true → X
no_true e = zero_one (cc)

-- two values of one constructor are one
pub some_same : {A : Type 0} {x y : A} → ◌≡◌ {A = Option A} (Some x) (Some y) → x ≡ y
some_same e = cc

pub ok_same : {A E : Type 0} {x y : A} → ◌≡◌ {A = Result A E} (Ok x) (Ok y) → x ≡ y
ok_same e = cc
