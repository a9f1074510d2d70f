-- A good table, place by place, and one record of it stored anew. Assumes nothing.
use Rattle.std.specs.Prelude.{Option, Some, None}
use Rattle.walks.proofs.Words.{◌≡◌, refl, sym, ap, ◌∙◌, ℕ, zero, suc, ◌≤◌, ◌<◌, arith, Bool, true, false, ◌&&◌, ◌||◌, true≢false, [], ◌∷◌, eqb, ltb, length, get_or, set, length-set, get_or-set_same, get_or-set_other, eq-eqb, eqb-true, eqb-false, ltb-false, le-ltb}
use Rattle.stream_records.proofs.Terms.{largest_quarter, StreamRecord, blank, flag, is_used, is_blank, is_bad_record, holds, Table, any_bad, stands_in, stands_twice, is_bad, GoodTable, HoldsExactly, GoodExactly, FoundOnce}
use Rattle.stream_records.proofs.{Flags.or_none, Flags.and_both, Flags.not_so, Flags.free_good, Flags.used_good, Places.first, Places.find_first, Places.stands-first, Places.any_first, Places.is_at, Places.first-is, Places.none_is, Places.first_none}

-- as `GoodTable`, by quarters
pub record Good (t : Table) : Type 0 where
  pub short : length t ≤ 64
  pub each : (k : ℕ) → is_bad_record (get_or t k blank) ≡ false
  -- a quarter has one place
  pub once : (q j k : ℕ) → holds q (get_or t j blank) ≡ true → holds q (get_or t k blank) ≡ true → j ≡ k

not_at : (f : Option ℕ) → is_at f ≡ false → f ≡ None
unfolding is_at
not_at None e = refl
not_at (Some i) e = absurd (true≢false e)

module _ (q : ℕ) where
  pub held : (r : StreamRecord) → holds q r ≡ true → (is_used r ≡ true) × (r.quarter.0 ≡ q)
  unfolding holds
  held r h = let z = and_both _ _ h in (z.0, eqb-true r.quarter.0 q z.1)

  pub holds_so : (r : StreamRecord) → is_used r ≡ true → r.quarter.0 ≡ q → holds q r ≡ true
  unfolding holds
  holds_so r u e = rw (u, eq-eqb r.quarter.0 q e)

  pub blank_free : holds q blank ≡ false
  unfolding holds flag
  blank_free = refl

  -- a quarter stands nowhere in a table
  pub not_standing : (t : Table) → stands_in q t ≡ false → (k : ℕ) → holds q (get_or t k blank) ≡ false
  not_standing t e = first_none (holds q) blank_free t (not_at _ (sym (stands-first q t) ∙ e))

  pub stands_not : (t : Table) → ((k : ℕ) → holds q (get_or t k blank) ≡ false) → stands_in q t ≡ false
  unfolding is_at
  stands_not t h = stands-first q t ∙ ap is_at (none_is (holds q) t (λ k l. h k))

pub holds_exactly : HoldsExactly
holds_exactly q r = (held q r, holds_so q r)

-- past the end stands the blank
held_inside : (q : ℕ) (t : Table) (i : ℕ) → holds q (get_or t i blank) ≡ true → i < length t
held_inside q [] i h = absurd (true≢false (sym h ∙ blank_free q))
held_inside q (r ∷ rs) zero h = omega arith
held_inside q (r ∷ rs) (suc i) h = let l = held_inside q rs i h in omega arith

-- ---- as the test of a table says it

halves : (r : StreamRecord) (rs : Table) → stands_twice (r ∷ rs) ≡ false → ((is_used r && stands_in r.quarter.0 rs) ≡ false) × (stands_twice rs ≡ false)
unfolding stands_twice
halves r rs e = or_none (is_used r && stands_in r.quarter.0 rs) (stands_twice rs) e

clash : (r : StreamRecord) (rs : Table) (q k : ℕ) → (is_used r && stands_in r.quarter.0 rs) ≡ false → holds q r ≡ true → holds q (get_or rs k blank) ≡ true → ⊥
clash r rs q k e a b =
    let h = held q r a in
    let s : stands_in q rs ≡ false = rw (h.0, h.1) at e in
    true≢false (sym b ∙ not_standing q rs s k)

alone : (r : StreamRecord) (rs : Table) → ((q k : ℕ) → holds q r ≡ true → holds q (get_or rs k blank) ≡ true → ⊥) → (is_used r && stands_in r.quarter.0 rs) ≡ false
alone r rs n = go (is_used r) refl
  where
    go : (u : Bool) → is_used r ≡ u → (u && stands_in r.quarter.0 rs) ≡ false
    go false x = refl
    go true x = stands_not r.quarter.0 rs (λ k. not_so _ (n r.quarter.0 k (holds_so r.quarter.0 r x refl)))

once_of : (t : Table) → stands_twice t ≡ false → (q j k : ℕ) → holds q (get_or t j blank) ≡ true → holds q (get_or t k blank) ≡ true → j ≡ k
once_of [] e q j k a b = absurd (true≢false (sym a ∙ blank_free q))
once_of (r ∷ rs) e q zero zero a b = refl
once_of (r ∷ rs) e q zero (suc k) a b = absurd (clash r rs q k (halves r rs e).0 a b)
once_of (r ∷ rs) e q (suc j) zero a b = absurd (clash r rs q j (halves r rs e).0 b a)
once_of (r ∷ rs) e q (suc j) (suc k) a b = ap suc (once_of rs (halves r rs e).1 q j k a b)

of_once : (t : Table) → ((q j k : ℕ) → holds q (get_or t j blank) ≡ true → holds q (get_or t k blank) ≡ true → j ≡ k) → stands_twice t ≡ false
unfolding stands_twice
of_once [] o = refl
of_once (r ∷ rs) o = rw (alone r rs (λ q k a b. let e = o q 0 (suc k) a b in omega arith), of_once rs (λ q j k a b. let e = o q (suc j) (suc k) a b in omega arith))

pub good_of : (t : Table) → is_bad t ≡ false → Good t
unfolding is_bad is_bad_record is_blank flag
good_of t e =
    let a = or_none (ltb 64 (length t)) (any_bad t || stands_twice t) e in
    let b = or_none (any_bad t) (stands_twice t) a.1 in
    record {
      short = ltb-false 64 (length t) a.0;
      each = first_none is_bad_record refl t (not_at _ (sym (any_first t) ∙ b.0));
      once = once_of t b.1;
    }

pub of_good : (t : Table) → Good t → is_bad t ≡ false
unfolding is_bad is_at
of_good t g =
    let a : any_bad t ≡ false = any_first t ∙ ap is_at (none_is is_bad_record t (λ k l. g.each k)) in
    rw (le-ltb 64 (length t) g.short, a, of_once t g.once)

pub good_exactly : GoodExactly
unfolding largest_quarter
good_exactly t = (
  λ e.
      let g = good_of t e in
      record {
        short = g.short;
        quarters = λ k u. ((used_good (get_or t k blank) u).0 (g.each k)).0;
        once = λ j k a b s. g.once (get_or t k blank).quarter.0 j k (holds_so _ (get_or t j blank) a s) (holds_so _ (get_or t k blank) b refl);
        sides = λ k u. ((used_good (get_or t k blank) u).0 (g.each k)).1;
        free = λ k f. (free_good (get_or t k blank) f).0 (g.each k);
      },
  λ g. of_good t (record {
    short = g.short;
    each = λ k. each g k (is_used (get_or t k blank)) refl;
    once = λ q j k a b. let x = held q _ a in let y = held q _ b in g.once j k x.0 y.0 (x.1 ∙ sym y.1);
  }),
)
  where
    each : GoodTable t → (k : ℕ) (u : Bool) → is_used (get_or t k blank) ≡ u → is_bad_record (get_or t k blank) ≡ false
    each g k true x = (used_good (get_or t k blank) x).1 (g.quarters k x) (g.sides k x)
    each g k false x = (free_good (get_or t k blank) x).1 (g.free k x)

pub found_once : FoundOnce
found_once q i t e h =
    let g = good_of t e in
    find_first q t ∙ first-is (holds q) t i (record {
      within = held_inside q t i h;
      here = h;
      below = λ k l. not_so (holds q (get_or t k blank)) (λ b. let s : k ≡ i = g.once q k i b h in let n : ⊥ = omega arith in n);
    })

-- ---- after a store

module _ (t : Table) (i : ℕ) (r : StreamRecord) (l : i < length t) where
  -- a place afterwards is the one stored at, or is as before
  pub after-set : {X : Type 0} (k : ℕ) → (k ≡ i → get_or (set t i r) k blank ≡ r → X) → ((k ≡ i → ⊥) → get_or (set t i r) k blank ≡ get_or t k blank → X) → X
  after-set {X} k here other = go (eqb k i) refl
    where
      go : (b : Bool) → eqb k i ≡ b → X
      go true x = let e = eqb-true k i x in here e (rw e (get_or-set_same t i r blank l))
      go false x = let n = eqb-false k i x in other n (get_or-set_other t i k r blank n)

  -- the record stored is the first of its kind, if it is of that kind and no lower one is
  pub set_first : (p : StreamRecord → Bool) → p r ≡ true → ((k : ℕ) → k < i → p (get_or t k blank) ≡ false) → first p (set t i r) ≡ Some i
  set_first p h b = first-is p (set t i r) i (record {
    within = omega (arith, length-set t i r);
    here = ap p (get_or-set_same t i r blank l) ∙ h;
    below = λ k m. ap p (get_or-set_other t i k r blank (λ e. let n : ⊥ = omega arith in n)) ∙ b k m;
  })

  pub set_good : Good t → is_bad_record r ≡ false → ((q : ℕ) → holds q r ≡ true → (k : ℕ) → holds q (get_or t k blank) ≡ true → k ≡ i) → Good (set t i r)
  set_good g b o = record {
    short = omega (arith, g.short, length-set t i r);
    each = λ k. after-set k (λ e x. rw x b) (λ n x. rw x (g.each k));
    once = λ q j k a c. after-set j
        (λ e x. after-set k (λ e' y. e ∙ sym e') (λ n y. absurd (n (o q (rw x at a) k (rw y at c)))))
        (λ n x. after-set k (λ e y. absurd (n (o q (rw y at c) j (rw x at a)))) (λ n' y. g.once q j k (rw x at a) (rw y at c)));
  }
