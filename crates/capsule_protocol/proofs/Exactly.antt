-- Which strings are in a rule. Assumes nothing.
use Rattle.walks.proofs.Words.{◌≡◌, refl, sym, ap, subst, ◌∙◌, Bool, true, false, ◌&&◌, ◌||◌, false≢true, or-true, ℕ, zero, suc, ◌<◌, arith, List, [], ◌∷◌, ◌++◌, length, get_or, leb-true, le-leb, leb, eqb-true}
use mathlib.Core.Bool.{and-eq-true_iff}
use Rattle.capsule_protocol.proofs.Joining.{many-first, many-after}
use Rattle.capsule_protocol.proofs.Terms.{Rule, Class, empty, one, every, up_to, ◌then◌, ◌then_many◌, many, is_space, spaces, In, EmptyExactly, OneExactly, EveryExactly, UpToExactly, ThenExactly, joined, AllIn, ManyExactly}

-- a test and another, both
pub both : (a b : Bool) → a ≡ true → b ≡ true → a && b ≡ true
both a b h k = (and-eq-true_iff a b).1 (h, k)

-- one of two
pub or_cases : {X : Type 0} (a b : Bool) → (a ≡ true → X) → (b ≡ true → X) → a || b ≡ true → X
or_cases true b f g e = f refl
or_cases false b f g e = g e

left : (a b : Bool) → a ≡ true → a || b ≡ true
left a b h = rw h

right : (a b : Bool) → b ≡ true → a || b ≡ true
right a b h = rw (h, or-true a)

-- ---- bytes

pub empty_exactly : EmptyExactly
unfolding empty
empty_exactly [] = (λ e. refl, λ e. refl)
empty_exactly (b ∷ s) = (λ e. absurd (false≢true e), λ e. ap empty e)

one_only : (p : Class) (s : List ℕ) → In (one p) s → (b : ℕ) × (p b ≡ true) × (s ≡ b ∷ [])
unfolding one
one_only p [] e = absurd (false≢true e)
one_only p (b ∷ s) e = let h = (and-eq-true_iff (p b) (empty s)).0 e in (b, h.0, ap (λ (t : List ℕ). b ∷ t) ((empty_exactly s).0 h.1))

pub one_exactly : OneExactly
unfolding one empty
one_exactly p s = (one_only p s, λ h. subst (In (one p)) (sym h.2) (both (p h.0) true h.1 refl))

every_only : (p : Class) (s : List ℕ) → In (every p) s → (i : ℕ) → i < length s → p (get_or s i 0) ≡ true
unfolding every
every_only p [] e i l = absurd (let z : ⊥ = omega arith in z)
every_only p (b ∷ s) e zero l = ((and-eq-true_iff (p b) (every p s)).0 e).0
every_only p (b ∷ s) e (suc i) l = every_only p s ((and-eq-true_iff (p b) (every p s)).0 e).1 i (omega arith)

every_so : (p : Class) (s : List ℕ) → ((i : ℕ) → i < length s → p (get_or s i 0) ≡ true) → In (every p) s
unfolding every
every_so p [] h = refl
every_so p (b ∷ s) h = both (p b) (every p s) (h 0 (omega arith)) (every_so p s (λ i l. h (suc i) (omega arith)))

pub every_exactly : EveryExactly
every_exactly p s = (every_only p s, every_so p s)

pub up_to_exactly : UpToExactly
unfolding up_to
up_to_exactly n p s = (
  λ e.
      let h = (and-eq-true_iff (every p s) _).0 e in
      let k = (and-eq-true_iff (leb 1 (length s)) (leb (length s) n)).0 h.1 in
      (h.0, leb-true 1 (length s) k.0, leb-true (length s) n k.1),
  λ h. both _ _ h.0 (both _ _ (le-leb 1 (length s) h.1) (le-leb (length s) n h.2)),
)

-- ---- spaces

pub only_spaces : (s : List ℕ) → In (every is_space) s → s ≡ spaces (length s)
unfolding every
only_spaces [] e = refl
only_spaces (b ∷ s) e = let h = (and-eq-true_iff (is_space b) (every is_space s)).0 e in (λ i. eqb-true b 0x20 h.0 i ∷ only_spaces s h.1 i)

pub spaces_only : (n : ℕ) → In (every is_space) (spaces n)
unfolding every
spaces_only zero = refl
spaces_only (suc n) = spaces_only n

-- ---- one after the other

then_only : (x y : Rule) (s : List ℕ) → In (x then y) s → (t : List ℕ) × (u : List ℕ) × (s ≡ t ++ u) × In x t × In y u
unfolding ◌then◌
then_only x y [] e = let h = (and-eq-true_iff (x []) (y [])).0 e in ([], [], refl, h.0, h.1)
then_only x y (b ∷ s) e =
    or_cases (x [] && y (b ∷ s)) (((λ t. x (b ∷ t)) then y) s)
    (λ e. let h = (and-eq-true_iff (x []) (y (b ∷ s))).0 e in ([], b ∷ s, refl, h.0, h.1))
    (λ e. let h = then_only (λ t. x (b ∷ t)) y s e in (b ∷ h.0, h.1, ap (λ (t : List ℕ). b ∷ t) h.2, h.3, h.4))
    e

pub then_so : (x y : Rule) (t u : List ℕ) → In x t → In y u → In (x then y) (t ++ u)
unfolding ◌then◌
then_so x y [] [] h k = both (x []) (y []) h k
then_so x y [] (b ∷ u) h k = left _ _ (both (x []) (y (b ∷ u)) h k)
then_so x y (b ∷ t) u h k = right (x [] && y (b ∷ t ++ u)) _ (then_so (λ t. x (b ∷ t)) y t u h k)

pub then_exactly : ThenExactly
then_exactly x y s = (then_only x y s, λ h. subst (In (x then y)) (sym h.2) (then_so x y h.0 h.1 h.3 h.4))

-- ---- any number

many_only : (y x : Rule) (s : List ℕ) → In (y then_many x) s → (t : List ℕ) × (l : List (List ℕ)) × (s ≡ t ++ joined l) × In y t × AllIn x l
unfolding ◌then_many◌
many_only y x [] e = ([], [], refl, e, tt)
many_only y x (b ∷ s) e =
    or_cases (y [] && ((λ t. x (b ∷ t)) then_many x) s) (((λ t. y (b ∷ t)) then_many x) s)
    (λ e.
    let h = (and-eq-true_iff (y []) (((λ t. x (b ∷ t)) then_many x) s)).0 e in
    let k = many_only (λ t. x (b ∷ t)) x s h.1 in
    ([], (b ∷ k.0) ∷ k.1, ap (λ (t : List ℕ). b ∷ t) k.2, h.0, (k.3, k.4)))
    (λ e. let k = many_only (λ t. y (b ∷ t)) x s e in (b ∷ k.0, k.1, ap (λ (t : List ℕ). b ∷ t) k.2, k.3, k.4))
    e

pub many_so : (x : Rule) (l : List (List ℕ)) → AllIn x l → In (many x) (joined l)
unfolding ◌then_many◌ empty
many_so x [] k = refl
many_so x ([] ∷ l) k = many_so x l k.1
many_so x ((b ∷ t) ∷ l) k =
    many-first x b (t ++ joined l) ∙ many-after (λ u. x (b ∷ u)) x (t ++ joined l) ∙ then_so (λ u. x (b ∷ u)) (many x) t (joined l) k.0 (many_so x l k.1)

pub many_exactly : ManyExactly
many_exactly x s = (
  λ e. let k = many_only empty x s e in (k.1, k.2 ∙ ap (λ (t : List ℕ). t ++ joined k.1) ((empty_exactly k.0).0 k.3), k.4),
  λ h. subst (In (many x)) (sym h.1) (many_so x h.0 h.2),
)
