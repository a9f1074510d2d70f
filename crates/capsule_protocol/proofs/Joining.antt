-- Rules one after the other: the first byte of what is joined. Assumes nothing.
use Rattle.walks.proofs.Words.{◌≡◌, refl, sym, ap, ◌∙◌, Bool, true, false, ◌&&◌, ◌||◌, or-false, and-true, ℕ, List, [], ◌∷◌}
use Rattle.capsule_protocol.proofs.Terms.{Rule, Class, empty, one, every, ◌or◌, optional, ◌then◌, ◌then_many◌, many}

-- ---- tests joined

share : (a b c : Bool) → (a || b) && c ≡ (a && c) || (b && c)
share true true true = refl
share true true false = refl
share true false c = sym (or-false c)
share false b c = refl

spread : (a b c x y : Bool) → ((a || b) && c) || (x || y) ≡ ((a && c) || x) || ((b && c) || y)
spread true true true x y = refl
spread true true false x y = refl
spread true false true x y = refl
spread true false false x y = refl
spread false true true true y = refl
spread false true true false y = refl
spread false true false x y = refl
spread false false c x y = refl

nest : (a b c x y : Bool) → ((a && b) && c) || ((a && x) || y) ≡ (a && ((b && c) || x)) || y
nest true true true x y = refl
nest true true false x y = refl
nest true false c x y = refl
nest false b c x y = refl

grouped : (a b c : Bool) → (a && b) && c ≡ a && (b && c)
grouped true b c = refl
grouped false b c = refl

-- ---- rules that are the same at every string

module _ {x y : Rule} (z : Rule) (same : (t : List ℕ) → x t ≡ y t) where
  pub front_same : (s : List ℕ) → (x then z) s ≡ (y then z) s
  front_same s = ap (λ (r : Rule). (r then z) s) (λ i t. same t i)

  pub back_same : (s : List ℕ) → (z then x) s ≡ (z then y) s
  back_same s = ap (λ (r : Rule). (z then r) s) (λ i t. same t i)

-- ---- nothing in front

pub then_none : (y : Rule) (s : List ℕ) → ((λ t. false) then y) s ≡ false
unfolding ◌then◌
then_none y [] = refl
then_none y (b ∷ s) = then_none y s

pub then_empty : (y : Rule) (s : List ℕ) → (empty then y) s ≡ y s
unfolding ◌then◌ empty
then_empty y [] = refl
then_empty y (b ∷ s) = rw (then_none y s) (or-false (y (b ∷ s)))

pub then_if : (a : Bool) (x y : Rule) (s : List ℕ) → ((λ t. a && x t) then y) s ≡ a && (x then y) s
then_if true x y s = refl
then_if false x y s = then_none y s

-- ---- alternatives in front

pub then_or : (x y z : Rule) (s : List ℕ) → ((x or y) then z) s ≡ ((x then z) or (y then z)) s
unfolding ◌then◌
then_or x y z [] = share (x []) (y []) (z [])
then_or x y z (b ∷ s) =
    ap (λ (r : Bool). ((x [] || y []) && z (b ∷ s)) || r) (then_or (λ t. x (b ∷ t)) (λ t. y (b ∷ t)) z s)
    ∙ spread (x []) (y []) (z (b ∷ s)) _ _

pub then_optional : (x y : Rule) (s : List ℕ) → (optional x then y) s ≡ y s || (x then y) s
then_optional x y s = then_or empty x y s ∙ ap (λ (r : Bool). r || (x then y) s) (then_empty y s)

-- ---- three in a row

pub then_then : (x y z : Rule) (s : List ℕ) → ((x then y) then z) s ≡ (x then y then z) s
unfolding ◌then◌
then_then x y z [] = grouped (x []) (y []) (z [])
then_then x y z (b ∷ s) =
    ap (λ (r : Bool). ((x [] && y []) && z (b ∷ s)) || r)
    (then_or (λ t. x [] && y (b ∷ t)) ((λ t. x (b ∷ t)) then y) z s
    ∙ ap (λ (r : Bool). r || (((λ t. x (b ∷ t)) then y) then z) s) (then_if (x []) (λ t. y (b ∷ t)) z s)
    ∙ ap (λ (r : Bool). (x [] && ((λ t. y (b ∷ t)) then z) s) || r) (then_then (λ t. x (b ∷ t)) y z s))
    ∙ nest (x []) (y []) (z (b ∷ s)) _ _

-- ---- the first byte

module _ (p : Class) (y : Rule) (b : ℕ) (s : List ℕ) where
  pub after_one : ((λ t. one p (b ∷ t)) then y) s ≡ p b && y s
  unfolding one
  after_one = then_if (p b) empty y s ∙ ap (λ (r : Bool). p b && r) (then_empty y s)

  pub then_one : (one p then y) (b ∷ s) ≡ p b && y s
  unfolding ◌then◌ one
  then_one = after_one

  pub then_every : (every p then y) (b ∷ s) ≡ y (b ∷ s) || (p b && (every p then y) s)
  unfolding ◌then◌ every
  then_every = ap (λ (r : Bool). y (b ∷ s) || r) (then_if (p b) (every p) y s)

-- ---- repetitions

many_none : (x : Rule) (s : List ℕ) → ((λ t. false) then_many x) s ≡ false
unfolding ◌then_many◌
many_none x [] = refl
many_none x (b ∷ s) = many_none x s

pub many-first : (x : Rule) (b : ℕ) (s : List ℕ) → many x (b ∷ s) ≡ ((λ t. x (b ∷ t)) then_many x) s
unfolding ◌then_many◌ empty
many-first x b s = rw (many_none x s) (or-false _)

pub many-after : (x y : Rule) (s : List ℕ) → (x then_many y) s ≡ (x then many y) s
unfolding ◌then_many◌ ◌then◌ empty
many-after x y [] = sym (and-true (x []))
many-after x y (b ∷ s) =
    ap (λ (r : Bool). (x [] && ((λ t. y (b ∷ t)) then_many y) s) || r) (many-after (λ t. x (b ∷ t)) y s)
    ∙ ap (λ (r : Bool). (x [] && r) || ((λ t. x (b ∷ t)) then many y) s) (sym (many-first y b s))

pub then_many_lem : (x y : Rule) (b : ℕ) (s : List ℕ) → (many x then y) (b ∷ s) ≡ y (b ∷ s) || ((λ t. x (b ∷ t)) then many x then y) s
unfolding ◌then◌ ◌then_many◌ empty
then_many_lem x y b s =
    ap (λ (r : Bool). y (b ∷ s) || r)
    (front_same y (λ t. many-first x b t ∙ many-after (λ u. x (b ∷ u)) x t) s ∙ then_then (λ t. x (b ∷ t)) (many x) y s)
