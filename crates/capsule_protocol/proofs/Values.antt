-- Which values are in use. Assumes nothing.
use Rattle.std.specs.Prelude.{Ok, Err}
use Rattle.walks.proofs.Words.{◌≡◌, refl, sym, ap, subst, ◌∙◌, ◌↔◌, Bool, true, false, cond, ◌≤◌, ◌<◌, length-append, length-replicate, leb, leb-true, leb-false, ℕ, List, [], ◌∷◌, ◌++◌, append_assoc, append-nil, length, get_or, eqb, eqb-true, arith, ◌&&◌}
use mathlib.Core.Bool.{and-eq-true_iff}
use Rattle.capsule_protocol.proofs.Terms.{Rule, empty, one, every, ◌then◌, many, is, is_space, parameter, parameters, true_item, in_use, field_of, field_too_long, zero_one, may_end, at, Front, spaces, In, joined, AllIn, FieldExactly, InUseExactly, BareTrueInUse, SpacesIgnored, ParameterAdded}
use Rattle.capsule_protocol.proofs.Exactly.{only_spaces, spaces_only, one_exactly, then_exactly, then_so, many_exactly, many_so}
use Rattle.capsule_protocol.proofs.Runs.{run, run-append, in_use_run, spaces-end-run, spaces_in_front}

-- ---- one byte

this_byte : (k : ℕ) (s : List ℕ) → In (one (is k)) s → s ≡ k ∷ []
this_byte k s e = let h = (one_exactly (is k) s).0 e in h.2 ∙ ap (λ (b : ℕ). b ∷ []) (eqb-true h.0 k h.1)

-- ---- the item

pub true_item_only : (s : List ℕ) → In true_item s → (p : List ℕ) × (s ≡ 0x3f ∷ 0x31 ∷ p) × In parameters p
unfolding true_item
true_item_only s e =
    let h = (then_exactly (one (is 0x3f)) (one (is 0x31) then parameters) s).0 e in
    let k = (then_exactly (one (is 0x31)) parameters h.1).0 h.4 in
    (k.1, h.2 ∙ (λ i. this_byte 0x3f h.0 h.3 i ++ (k.2 ∙ ap (λ (t : List ℕ). t ++ k.1) (this_byte 0x31 k.0 k.3)) i), k.4)

true_item_so : (p : List ℕ) → In parameters p → In true_item (0x3f ∷ 0x31 ∷ p)
unfolding true_item one empty
true_item_so p h = then_so (one (is 0x3f)) (one (is 0x31) then parameters) (0x3f ∷ []) (0x31 ∷ p) refl (then_so (one (is 0x31)) parameters (0x31 ∷ []) p refl h)

-- ---- the value

pub in_use_exactly : InUseExactly
unfolding in_use
in_use_exactly s = (only, λ h. subst (In in_use) (sym h.3) (so h.0 h.1 h.2 h.4))
  where
    only : In in_use s → (i : ℕ) × (j : ℕ) × (p : List ℕ) × (s ≡ spaces i ++ ((0x3f ∷ 0x31 ∷ p) ++ spaces j)) × In parameters p
    only e =
        let h = (then_exactly (every is_space) (true_item then every is_space) s).0 e in
        let k = (then_exactly true_item (every is_space) h.1).0 h.4 in
        let t = true_item_only k.0 k.3 in
        (length h.0, length k.1, t.0, h.2 ∙ (λ i. only_spaces h.0 h.3 i ++ (k.2 ∙ (λ i. t.1 i ++ only_spaces k.1 k.4 i)) i), t.2)

    so : (i j : ℕ) (p : List ℕ) → In parameters p → In in_use (spaces i ++ ((0x3f ∷ 0x31 ∷ p) ++ spaces j))
    so i j p h = then_so (every is_space) (true_item then every is_space) (spaces i) _ (spaces_only i) (then_so true_item (every is_space) (0x3f ∷ 0x31 ∷ p) (spaces j) (true_item_so p h) (spaces_only j))

no_parameters : In parameters []
unfolding parameters
no_parameters = many_so _ [] tt

true_between : (i j : ℕ) → In in_use (spaces i ++ (0x3f ∷ 0x31 ∷ spaces j))
true_between i j = (in_use_exactly _).1 (i, j, [], refl, no_parameters)

-- the two bytes of `?1`
pub plain : (s : List ℕ) → length s ≡ 2 → eqb (get_or s 0 0) 0x3f && eqb (get_or s 1 0) 0x31 ≡ true → In in_use s
plain [] l e = absurd (let z : ⊥ = omega arith in z)
plain (a ∷ []) l e = absurd (let z : ⊥ = omega arith in z)
plain (a ∷ b ∷ []) l e =
    let h = (and-eq-true_iff (eqb a 0x3f) (eqb b 0x31)).0 e in
    ap in_use (λ i. eqb-true a 0x3f h.0 i ∷ eqb-true b 0x31 h.1 i ∷ []) ∙ true_between 0 0
plain (a ∷ b ∷ c ∷ s) l e = absurd (let z : ⊥ = omega arith in z)

-- ---- the answer

pub field_exactly : FieldExactly
unfolding field_of
field_exactly s = go (leb (length s) 1024) refl (in_use s) refl
  where
    Answered : Bool → Bool → Type 0
    Answered short right =
        ((cond short (cond right (Ok true) (Ok false)) (Err field_too_long) ≡ (Ok true)) ↔ ((length s ≤ 1024) × (right ≡ true)))
        × ((cond short (cond right (Ok true) (Ok false)) (Err field_too_long) ≡ (Ok false)) ↔ ((length s ≤ 1024) × (right ≡ false)))
        × ((cond short (cond right (Ok true) (Ok false)) (Err field_too_long) ≡ Err field_too_long) ↔ (1024 < length s))

    go : (short : Bool) → leb (length s) 1024 ≡ short → (right : Bool) → in_use s ≡ right → Answered short right
    go true e true f =
        let l = leb-true (length s) 1024 e in
        ((λ h. (l, refl), λ h. refl), (λ h. zero_one (cc), λ h. zero_one (cc h.1)), (λ h. zero_one (cc), λ h. absurd (let z : ⊥ = omega arith in z)))
    go true e false f =
        let l = leb-true (length s) 1024 e in
        ((λ h. zero_one (cc), λ h. zero_one (cc h.1)), (λ h. (l, refl), λ h. refl), (λ h. zero_one (cc), λ h. absurd (let z : ⊥ = omega arith in z)))
    go false e right f =
        let l = leb-false (length s) 1024 e in
        ((λ h. zero_one (cc), λ h. absurd (let k = h.0 in let z : ⊥ = omega arith in z)), (λ h. zero_one (cc), λ h. absurd (let k = h.0 in let z : ⊥ = omega arith in z)), (λ h. l, λ h. refl))

pub bare_true_in_use : BareTrueInUse
bare_true_in_use i j h =
    (field_exactly (spaces i ++ (0x3f ∷ 0x31 ∷ spaces j))).0.1 (
      simp (length-append, length-replicate) (omega arith),
      true_between i j,
    )

pub spaces_ignored : SpacesIgnored
spaces_ignored i j s =
    spaces_in_front i (s ++ spaces j)
    ∙ in_use_run (s ++ spaces j)
    ∙ ap may_end (run-append (at Front) s (spaces j))
    ∙ spaces-end-run j (run (at Front) s)
    ∙ sym (in_use_run s)

-- ---- a parameter more

joined-append : (l m : List (List ℕ)) → joined (l ++ m) ≡ joined l ++ joined m
joined-append [] m = refl
joined-append (t ∷ l) m = ap (λ (u : List ℕ). t ++ u) (joined-append l m) ∙ sym (append_assoc t (joined l) (joined m))

all_append : (x : Rule) (l m : List (List ℕ)) → AllIn x l → AllIn x m → AllIn x (l ++ m)
all_append x [] m h k = k
all_append x (t ∷ l) m h k = (h.0, all_append x l m h.1 k)

many_more : (x : Rule) (s t : List ℕ) → In (many x) s → In x t → In (many x) (s ++ t)
many_more x s t h k =
    let l = (many_exactly x s).0 h in
    (many_exactly x (s ++ t)).1 (
      l.0 ++ (t ∷ []),
      (λ i. l.1 i ++ sym (append-nil t) i) ∙ sym (joined-append l.0 (t ∷ [])),
      all_append x l.0 (t ∷ []) l.2 (k, tt),
    )

pub parameter_added : ParameterAdded
unfolding parameters one empty
parameter_added i j n p q h k =
    (in_use_exactly _).1 (
      i,
      j,
      p ++ (0x3b ∷ (spaces n ++ q)),
      refl,
      many_more _ p (0x3b ∷ (spaces n ++ q)) h
          (then_so (one (is 0x3b)) (every is_space then parameter) (0x3b ∷ []) (spaces n ++ q) refl (then_so (every is_space) parameter (spaces n) q (spaces_only n) k)),
    )
