-- One pass checks the rule over every two ranges. Assumes nothing.
use Rattle.walks.proofs.Words.{◌≡◌, refl, sym, ap, ◌∙◌, Bool, true, false, ◌&&◌, ◌||◌, and-true, and-false, and_assoc, or-true, Option, None, Some, ℕ, zero, suc, ◌≤◌, ◌<◌, arith, List, [], ◌∷◌, ◌++◌, append_assoc, ltb, eqb, lt-ltb, eq-eqb, ne_eqb, eqb-true, eqb-false}
use Rattle.address_rules.proofs.Terms.{Range, good_range, before, in_order, disjoint, apart, all_apart, all_of, good_ranges, follows, same_of, clear_from, fits, after, pass, Each, PassIsRule}
use Rattle.address_rules.proofs.Order.{Order, newer, other, above, order}

-- ---- of all elements

module _ (P Q : Range → Type 0) where
  each_append : (s t : List Range) → Each P s → Each P t → Each P (s ++ t)
  each_append [] t a b = b
  each_append (x ∷ s) t a b = (a.0, each_append s t a.1 b)

  each_map : ((s : Range) → P s → Q s) → (l : List Range) → Each P l → Each Q l
  each_map f [] e = tt
  each_map f (s ∷ l) e = (f s e.0, each_map f l e.1)

module _ (P : Range → Type 0) (good other : Range → Bool) where
  all_true : ((s : Range) → P s → good s ≡ true) → (l : List Range) → Each P l → all_of good l ≡ true
  unfolding all_of
  all_true f [] e = refl
  all_true f (s ∷ l) e = rw (f s e.0, all_true f l e.1)

  all_same : ((s : Range) → P s → good s ≡ other s) → (l : List Range) → Each P l → all_of good l ≡ all_of other l
  unfolding all_of
  all_same f [] e = refl
  all_same f (s ∷ l) e = rw (f s e.0, all_same f l e.1)

all_append : (good : Range → Bool) (s t : List Range) → all_of good (s ++ t) ≡ all_of good s && all_of good t
unfolding all_of
all_append good [] t = refl
all_append good (x ∷ s) t = ap (λ (b : Bool). good x && b) (all_append good s t) ∙ sym (and_assoc (good x) (all_of good s) (all_of good t))

-- a && c distributes over two tests of each
swap : (a b c d : Bool) → a && b && (c && d) ≡ a && c && (b && d)
swap true true c d = refl
swap true false true d = refl
swap true false false d = refl
swap false b c d = refl

all_and : (f g : Range → Bool) (l : List Range) → all_of (λ s. f s && g s) l ≡ all_of f l && all_of g l
unfolding all_of
all_and f g [] = refl
all_and f g (s ∷ l) = ap (λ (b : Bool). f s && g s && b) (all_and f g l) ∙ swap (f s) (g s) (all_of f l) (all_of g l)

-- ---- of two ranges

abbrev Older : Range → Range → Type 0
Older r s = s.version < r.version

abbrev Beside : Range → Range → Type 0
Beside r s = (s.version ≡ r.version) × (s.protocol ≤ r.protocol)

module _ (r s : Range) where
  apart_older : Older r s → apart s r ≡ true
  unfolding apart
  apart_older h = rw (ne_eqb s.version r.version (λ e. omega arith))

  apart_zero : r.protocol ≡ 0 → Beside r s → apart s r ≡ true
  unfolding apart
  apart_zero z h = rw (eq-eqb s.version r.version h.0, eq-eqb s.protocol 0 (omega (arith, h.1)), eq-eqb r.protocol 0 z)

  apart_other : 0 < r.protocol → Beside r s → apart s r ≡ clear_from r s
  unfolding apart clear_from
  apart_other p h = rw (eq-eqb s.version r.version h.0, ne_eqb r.protocol 0 (λ e. omega arith), lt-ltb 0 r.protocol p) (go (ltb 0 s.protocol))
    where
      go : (t : Bool) → (eqb s.protocol 0 && false) || ((t && true) || disjoint s r) ≡ t || disjoint s r
      go true = rw (and-false (eqb s.protocol 0))
      go false = rw (and-false (eqb s.protocol 0))

-- ---- a range after those that were seen

module _ (r : Range) where
  abbrev with_r : Range → Bool
  with_r s = apart s r

  beside-all : (l : List Range) → Each (Beside r) l → all_of with_r l ≡ eqb r.protocol 0 || all_of (clear_from r) l
  beside-all l h = go (eqb r.protocol 0) refl
    where
      go : (t : Bool) → eqb r.protocol 0 ≡ t → all_of with_r l ≡ t || all_of (clear_from r) l
      go true d = all_true (Beside r) with_r with_r (λ s b. apart_zero r s (eqb-true r.protocol 0 d) b) l h
      go false d = all_same (Beside r) with_r (clear_from r) (λ s b. apart_other r s (positive r.protocol (eqb-false r.protocol 0 d)) b) l h
        where
          positive : (n : ℕ) → (n ≡ 0 → ⊥) → 0 < n
          positive zero f = absurd (f refl)
          positive (suc n) f = omega arith

  older_all : (l : List Range) → Each (Older r) l → all_of with_r l ≡ true
  older_all l h = all_true (Older r) with_r with_r (λ s b. apart_older r s b) l h

-- what is known of the ranges seen: those of older versions, and those of the version of the one before
abbrev Known : Option Range → List Range → List Range → Type 0
Known None old same = (old ≡ []) × (same ≡ [])
Known (Some p) old same = Each (Older p) old × Each (Beside p) same

record Turn (previous : Option Range) (old same : List Range) (r : Range) : Type 0 where
  older : List Range
  joins : older ++ (same_of previous same r ++ (r ∷ [])) ≡ old ++ same ++ (r ∷ [])
  knows : Known (Some r) older (same_of previous same r ++ (r ∷ []))
  tests : all_of (with_r r) (old ++ same) ≡ eqb r.protocol 0 || all_of (clear_from r) (same_of previous same r)

itself : (r : Range) → Each (Beside r) (r ∷ [])
itself r = ((refl, omega arith), tt)

turn : (previous : Option Range) (old same : List Range) (r : Range) → Known previous old same → follows previous r ≡ true → Turn previous old same r
unfolding same_of follows all_of
turn None old same r k e =
    record {
      older = [];
      joins = rw (k.0, k.1);
      knows = (tt, itself r);
      tests = rw (k.0, k.1) (sym (or-true (eqb r.protocol 0)));
    }
turn (Some p) old same r k e = go (order p r e)
  where
    beside : p.version ≡ r.version → p.protocol ≤ r.protocol → Turn (Some p) old same r
    beside v q =
        let n : eqb p.version r.version ≡ true = eq-eqb p.version r.version v in
        let o : Each (Older r) old = each_map (Older p) (Older r) (λ s b. omega arith) old k.0 in
        let b : Each (Beside r) same = each_map (Beside p) (Beside r) (λ s b. (b.0 ∙ v, omega (arith, b.1))) same k.1 in
        record {
          older = old;
          joins = rw n (sym (append_assoc old same (r ∷ [])));
          knows = rw n (o, each_append (Beside r) (Beside r) same (r ∷ []) b (itself r));
          tests = rw n (all_append (with_r r) old same ∙ rw (older_all r old o) (beside-all r same b));
        }

    go : Order p r → Turn (Some p) old same r
    go (newer h) =
        let n : eqb p.version r.version ≡ false = ne_eqb p.version r.version (λ e. omega arith) in
        let o : Each (Older r) (old ++ same) = each_append (Older r) (Older r) old same (each_map (Older p) (Older r) (λ s b. omega arith) old k.0) (each_map (Beside p) (Older r) (λ s b. omega (arith, b.0)) same k.1) in
        record {
          older = old ++ same;
          joins = rw n;
          knows = rw n (o, itself r);
          tests = rw n (older_all r (old ++ same) o ∙ sym (or-true (eqb r.protocol 0)));
        }
    go (other v q) = beside v (omega arith)
    go (above v q h) = beside v (omega arith)

-- ---- the rule

order_from : Option Range → List Range → Bool
order_from p [] = true
order_from p (r ∷ rs) = follows p r && order_from (Some r) rs

order_some : (p : Range) (rs : List Range) → in_order (p ∷ rs) ≡ order_from (Some p) rs
unfolding in_order order_from follows
order_some p [] = refl
order_some p (r ∷ rs) = ap (λ (b : Bool). before p r && b) (order_some r rs)

order_none : (rs : List Range) → in_order rs ≡ order_from None rs
unfolding in_order order_from follows
order_none [] = refl
order_none (r ∷ rs) = order_some r rs

-- every one of some ranges with every one of others
cross : List Range → List Range → Bool
cross seen rs = all_of (λ s. all_of (apart s) rs) seen

cross_nil : (seen : List Range) → true ≡ cross seen []
unfolding cross all_of
cross_nil [] = refl
cross_nil (s ∷ seen) = cross_nil seen

cross_cons : (seen : List Range) (r : Range) (rs : List Range) → cross seen (r ∷ rs) ≡ all_of (with_r r) seen && cross seen rs
unfolding cross
cross_cons seen r rs = first ∙ all_and (with_r r) (λ s. all_of (apart s) rs) seen
  where
    first : all_of (λ s. all_of (apart s) (r ∷ rs)) seen ≡ all_of (λ s. apart s r && all_of (apart s) rs) seen
    first = unfold all_of in refl

cross_more : (seen : List Range) (r : Range) (rs : List Range) → cross (seen ++ (r ∷ [])) rs ≡ cross seen rs && all_of (apart r) rs
unfolding cross
cross_more seen r rs = all_append (λ s. all_of (apart s) rs) seen (r ∷ []) ∙ ap (λ (b : Bool). all_of (λ s. all_of (apart s) rs) seen && b) last
  where
    last : all_of (λ s. all_of (apart s) rs) (r ∷ []) ≡ all_of (apart r) rs
    last = unfold all_of in and-true (all_of (apart r) rs)

shuffle : (g a G O B C D : Bool) → (g && a) && (G && (O && ((B && C) && D))) ≡ (g && G) && (O && ((a && B) && (C && D)))
shuffle false a G O B C D = refl
shuffle true a false O B C D = and-false a
shuffle true a true false B C D = and-false a
shuffle true false true true B C D = refl
shuffle true true true true false C D = refl
shuffle true true true true true C D = refl

none_of : (g G X : Bool) → (g && false) && X ≡ (g && G) && false
none_of true G X = sym (and-false G)
none_of false G X = refl

abbrev Rule : Option Range → List Range → List Range → List Range → Type 0
Rule previous old same rs =
    pass (record { previous = previous; same = same }) rs ≡ all_of good_range rs && (order_from previous rs && (cross (old ++ same) rs && all_apart rs))

rule_turn : (r : Range) (rs : List Range) (previous : Option Range) (old same : List Range) → Known previous old same
    → ((older : List Range) → Known (Some r) older (same_of previous same r ++ (r ∷ [])) → Rule (Some r) older (same_of previous same r ++ (r ∷ [])) rs)
    → Rule previous old same (r ∷ rs)
unfolding pass fits after all_of all_apart order_from
rule_turn r rs previous old same k again = go (follows previous r) refl
  where
    go : (t : Bool) → follows previous r ≡ t → Rule previous old same (r ∷ rs)
    go false e = rw e (none_of (good_range r) (all_of good_range rs) (pass (record { previous = Some r; same = same_of previous same r ++ (r ∷ []) }) rs))
    go true e =
        let m = turn previous old same r k e in
        let c : cross (m.older ++ (same_of previous same r ++ (r ∷ []))) rs ≡ cross (old ++ same) rs && all_of (apart r) rs = rw m.joins (cross_more (old ++ same) r rs) in
        rw (e, again m.older m.knows, c, cross_cons (old ++ same) r rs, m.tests)
        (shuffle (good_range r) (eqb r.protocol 0 || all_of (clear_from r) (same_of previous same r)) (all_of good_range rs) (order_from (Some r) rs) (cross (old ++ same) rs) (all_of (apart r) rs) (all_apart rs))

rule : (rs : List Range) (previous : Option Range) (old same : List Range) → Known previous old same → Rule previous old same rs
rule [] previous old same k = unfold pass all_of order_from all_apart in rw (← (cross_nil (old ++ same)))
rule (r ∷ rs) previous old same k = rule_turn r rs previous old same k (λ older m. rule rs (Some r) older (same_of previous same r ++ (r ∷ [])) m)

pub pass-is_rule : PassIsRule
unfolding good_ranges all_apart cross all_of
pass-is_rule rs = rw (order_none rs) (sym (rule rs None [] [] (refl, refl)))
