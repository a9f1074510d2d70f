-- The order of ranges. Assumes nothing.
use Rattle.walks.proofs.Words.{◌≡◌, refl, sym, ◌∙◌, Bool, true, false, ◌&&◌, ◌||◌, and-false, ◌≤◌, ◌<◌, arith, List, [], ◌∷◌, ltb, eqb, lt-ltb, le-ltb, eq-eqb, ltb-true, ltb-false, eqb-true, not-true}
use Rattle.address_rules.proofs.Terms.{Range, good_range, before, in_order, all_of, every_two, NeighboursDecide, both}

pub is_good : (r : Range) → good_range r ≡ true → r.start ≤ r.end
unfolding good_range
is_good r e = ltb-false r.end r.start (not-true (ltb r.end r.start) e)

-- ---- a range before another

pub data Order (p r : Range) : Type 0 where
  newer : p.version < r.version → Order p r
  other : p.version ≡ r.version → p.protocol < r.protocol → Order p r
  above : p.version ≡ r.version → p.protocol ≡ r.protocol → p.end < r.start → Order p r

module _ (p r : Range) where
  pub order : before p r ≡ true → Order p r
  unfolding before
  order e = version (ltb p.version r.version) refl e
    where
      addresses : p.version ≡ r.version → eqb p.protocol r.protocol && ltb p.end r.start ≡ true → Order p r
      addresses v e =
          let b = both (eqb p.protocol r.protocol) (ltb p.end r.start) e in
          above v (eqb-true p.protocol r.protocol b.0) (ltb-true p.end r.start b.1)

      protocol : p.version ≡ r.version → (t : Bool) → ltb p.protocol r.protocol ≡ t → t || (eqb p.protocol r.protocol && ltb p.end r.start) ≡ true → Order p r
      protocol v true d e = other v (ltb-true p.protocol r.protocol d)
      protocol v false d e = addresses v e

      version : (t : Bool) → ltb p.version r.version ≡ t
          → t || (eqb p.version r.version && (ltb p.protocol r.protocol || (eqb p.protocol r.protocol && ltb p.end r.start))) ≡ true → Order p r
      version true d e = newer (ltb-true p.version r.version d)
      version false d e =
          let b = both (eqb p.version r.version) (ltb p.protocol r.protocol || (eqb p.protocol r.protocol && ltb p.end r.start)) e in
          protocol (eqb-true p.version r.version b.0) (ltb p.protocol r.protocol) refl b.1

  ordered : Order p r → before p r ≡ true
  unfolding before
  ordered (newer v) = rw (lt-ltb p.version r.version v)
  ordered (other v q) = rw (le-ltb p.version r.version (omega arith), eq-eqb p.version r.version v, lt-ltb p.protocol r.protocol q)
  ordered (above v q a) =
      rw (
        le-ltb p.version r.version (omega arith),
        eq-eqb p.version r.version v,
        le-ltb p.protocol r.protocol (omega arith),
        eq-eqb p.protocol r.protocol q,
        lt-ltb p.end r.start a,
      )

  pub before_zero : before p r ≡ true → p.version ≡ r.version → r.protocol ≡ 0 → (p.protocol ≡ 0) × (p.end < r.start)
  before_zero e v z = go (order e)
    where
      go : Order p r → (p.protocol ≡ 0) × (p.end < r.start)
      go (newer w) = absurd (let n : ⊥ = omega arith in n)
      go (other w q) = absurd (let n : ⊥ = omega arith in n)
      go (above w q a) = (q ∙ z, a)

-- ---- neighbours and every two

module _ (p q : Range) (good : good_range q ≡ true) (first : before p q ≡ true) where
  through : (r : Range) → before q r ≡ true → before p r ≡ true
  through r e = ordered p r (go (order p q first) (order q r e))
    where
      go : Order p q → Order q r → Order p r
      go (newer v) (newer w) = newer (omega arith)
      go (newer v) (other w n) = newer (omega arith)
      go (newer v) (above w n b) = newer (omega arith)
      go (other v m) (newer w) = newer (omega arith)
      go (other v m) (other w n) = other (v ∙ w) (omega arith)
      go (other v m) (above w n b) = other (v ∙ w) (omega arith)
      go (above v m a) (newer w) = newer (omega arith)
      go (above v m a) (other w n) = other (v ∙ w) (omega arith)
      go (above v m a) (above w n b) = above (v ∙ w) (m ∙ n) (omega (arith, is_good q good))

  through_all : (rs : List Range) → all_of (before q) rs ≡ true → all_of (before p) rs ≡ true
  unfolding all_of
  through_all [] e = refl
  through_all (r ∷ rs) e = let b = both (before q r) (all_of (before q) rs) e in rw (through r b.0, through_all rs b.1)

pub neighbours_decide : NeighboursDecide
unfolding in_order every_two all_of
neighbours_decide [] g = refl
neighbours_decide (p ∷ []) g = refl
neighbours_decide (p ∷ (q ∷ rs)) g =
    let h = (both (good_range p) (all_of good_range (q ∷ rs)) g).1 in
    rw (neighbours_decide (q ∷ rs) h) (go (before p q) refl (all_of (before q) rs) refl)
  where
    go : (t : Bool) → before p q ≡ t → (u : Bool) → all_of (before q) rs ≡ u → t && (u && every_two before rs) ≡ (t && all_of (before p) rs) && (u && every_two before rs)
    go false d u e = refl
    go true d false e = sym (and-false (all_of (before p) rs))
    go true d true e =
        let good = (both (good_range q) (all_of good_range rs) (both (good_range p) (all_of good_range (q ∷ rs)) g).1).0 in
        rw (through_all p q good d rs e)
