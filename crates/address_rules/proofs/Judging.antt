-- What the code's tests say of ranges at their places, and of values. Assumes nothing.
use Rattle.walks.proofs.Words.{◌≡◌, refl, sym, ap, ◌∙◌, Bool, true, false, cond, ◌&&◌, ◌||◌, or-true, Option, None, Some, ℕ, ◌+◌, ◌≤◌, ◌<◌, arith, List, [], ◌∷◌, ◌++◌, length, get_or, drop, drop_of_length-le, length-append, length-drop, length-take-le, ltb, eqb, lt-ltb, le-ltb, eq-eqb, ne_eqb, eqb-true}
use Rattle.address_rules.proofs.Terms.{Bytes, bytes_take, bytes_drop, Step, done, malformed, next, onwards, entries_by, entries, are_good, width_of, Entry, asks, good_requests, entry_at, Range, range_at, good_range, before, disjoint, all_of, good_ranges, Seen, nothing, follows, same_of, clear_from, fits, after, pass, range_in, range_placed, range_lent, RangeBytes, Lent, Wide, started_at, RangeRead, Stands, Preceded, nth, Later, Rising, Malformed, both, judged-end, judged_malformed, judged-next}
use Rattle.std.specs.Prelude.{Result, Ok, Err}
use Rattle.addresses.proofs.Reading as L
use Rattle.address_rules.proofs.{Pairs.pass-is_rule, Search.Ranks, Search.rising_none, Search.ranks_more, Search.stands-length, Order.is_good, Order.before_zero}

-- ---- two ranges

module _ (r s : Range) where
  pub clear_other : 0 < s.protocol → true ≡ clear_from r s
  unfolding clear_from
  clear_other h = rw (lt-ltb 0 s.protocol h)

  pub clear_zero : s.protocol ≤ 0 → ltb s.end r.start || ltb r.end s.start ≡ clear_from r s
  unfolding clear_from disjoint
  clear_zero h = rw (le-ltb 0 s.protocol h)

module _ (p r : Range) where
  pub before_newer : p.version < r.version → true ≡ before p r
  unfolding before
  before_newer h = rw (lt-ltb p.version r.version h)

  pub before_older : r.version < p.version → false ≡ before p r
  unfolding before
  before_older h = rw (le-ltb p.version r.version (omega arith), ne_eqb p.version r.version (λ e. omega arith))

  module _ (e : p.version ≡ r.version) where
    pub before_more : p.protocol < r.protocol → true ≡ before p r
    unfolding before
    before_more h = rw (le-ltb p.version r.version (omega arith), eq-eqb p.version r.version e, lt-ltb p.protocol r.protocol h)

    pub before-less : r.protocol < p.protocol → false ≡ before p r
    unfolding before
    before-less h = rw (le-ltb p.version r.version (omega arith), eq-eqb p.version r.version e, le-ltb p.protocol r.protocol (omega arith), ne_eqb p.protocol r.protocol (λ e. omega arith))

    pub before_same : p.protocol ≡ r.protocol → ltb p.end r.start ≡ before p r
    unfolding before
    before_same h = rw (le-ltb p.version r.version (omega arith), eq-eqb p.version r.version e, le-ltb p.protocol r.protocol (omega arith), eq-eqb p.protocol r.protocol h)

-- ---- a range that is lent

pub preceded_wide : (o : Option Range) (r : RangeBytes) → Preceded o (Some r) → Wide (width_of r.version) r
preceded_wide None r h = absurd h
preceded_wide (Some p) r h = h.1

pub protocol_in : (v : List ℕ) (at w : ℕ) → (range_in v at w).protocol ≡ get_or v (at + 1 + w + w) 0
unfolding range_in
protocol_in v at w = refl

module _ (v : List ℕ) (at w : ℕ) (r : RangeBytes) (l : Lent v at w r) where
  pub lent_is : range_lent r ≡ range_in v at w
  unfolding range_lent range_in
  lent_is = rw (l.0, l.1, l.2, l.3)

  pub lent_wide : Bytes v → at + (w + w + 2) ≤ length v → Wide w r
  lent_wide b h =
      let s : length r.start.now ≡ w = ap length l.1 ∙ length-take-le w (drop (at + 1) v) (omega (arith, length-drop (at + 1) v)) in
      let e : length r.end.now ≡ w = ap length l.2 ∙ length-take-le w (drop (at + 1 + w) v) (omega (arith, length-drop (at + 1 + w) v)) in
      (s, e, rw l.1 (bytes_take w (drop (at + 1) v) (bytes_drop (at + 1) v b)), rw l.2 (bytes_take w (drop (at + 1 + w) v) (bytes_drop (at + 1 + w) v b)))

-- ---- ranges that stand one after another

pub stands_le : (v : List ℕ) (w from at : ℕ) (l : List Range) → Stands v w from l at → from ≤ at
stands_le v w from at [] h = omega arith
stands_le v w from at (s ∷ l) h = omega (arith, stands_le v w (from + (w + w + 2)) at l h.1)

pub stands-more : (v : List ℕ) (w from at : ℕ) (l : List Range) → Stands v w from l at → Stands v w from (l ++ (range_in v at w ∷ [])) (at + (w + w + 2))
stands-more v w from at [] h = (ap (λ (n : ℕ). range_in v n w) (sym h), ap (λ (n : ℕ). n + (w + w + 2)) h)
stands-more v w from at (s ∷ l) h = (h.0, stands-more v w (from + (w + w + 2)) at l h.1)

-- ---- a turn of the loop over a value's ranges, by what is found

module _ (st : Seen) (v : List ℕ) (at : ℕ) where
  abbrev judged : Seen → ℕ → Bool
  judged seen i = are_good (pass seen) (entries range_at (drop i v))

  abbrev pub Turn : Result (Rattle.std.specs.Prelude.Option ℕ) Malformed → Type 0
  Turn (Ok None) = true ≡ judged st at
  Turn (Err m) = false ≡ judged st at
  Turn (Ok (Some w)) = let r = range_in v at w in fits st r && judged (after st r) (at + (w + w + 2)) ≡ judged st at

  pub turn : (r : Result (Rattle.std.specs.Prelude.Option ℕ) Malformed) → RangeRead v at r → Turn r
  unfolding range_placed pass
  turn (Ok None) h = sym (judged-end range_at L.range_shrinks (pass st) (drop at v) (sym h.reads))
  turn (Err m) h = sym (judged_malformed range_at L.range_shrinks (pass st) (drop at v) (sym h.reads))
  turn (Ok (Some w)) h =
      let r : Range = range_in v at w in
      sym (judged-next range_at L.range_shrinks (pass st) (drop at v) (drop (at + (w + w + 2)) v) r (fits st r) (pass (after st r)) (λ es. refl) (sym h.reads))

pub pass-starts : (rs : Option (List Range)) → are_good (pass nothing) rs ≡ are_good good_ranges rs
unfolding are_good
pass-starts None = refl
pass-starts (Some rs) = sym (pass-is_rule rs)

-- ---- a range behind those before it

pub fit_turned : (st : Seen) (r : Range) → ltb r.end r.start ≡ true → false ≡ fits st r
unfolding fits good_range
fit_turned st r e = rw e

module _ (st : Seen) (q : Option RangeBytes) (h : Preceded st.previous q) (r : Range) where
  first_of_all : (o : Option Range) → Preceded o q → q ≡ None → o ≡ None
  first_of_all None k e = refl
  first_of_all (Some p) k e = absurd (rw e at k)

  follow : (b : RangeBytes) (o : Option Range) → Preceded o q → q ≡ Some b → follows o r ≡ before (range_lent b) r
  unfolding follows
  follow b None k e = absurd (rw e at k)
  follow b (Some p) k e = ap (λ (x : Range). before x r) (rw e at k).0

  module _ (e : ltb r.end r.start ≡ false) where
    pub fit_first : q ≡ None → true ≡ fits st r
    unfolding fits follows same_of all_of good_range
    fit_first l = rw (e, first_of_all st.previous h l) (sym (or-true (eqb r.protocol 0)))

    module _ (b : RangeBytes) (is_b : q ≡ Some b) where
      pub fit_unordered : before (range_lent b) r ≡ false → false ≡ fits st r
      unfolding fits good_range
      fit_unordered f = rw (e, follow b st.previous h is_b, f)

      pub fit_zero : before (range_lent b) r ≡ true → r.protocol ≡ 0 → true ≡ fits st r
      unfolding fits good_range
      fit_zero f z = rw (e, follow b st.previous h is_b, f, eq-eqb r.protocol 0 z)

      pub fit_other : before (range_lent b) r ≡ true → (r.protocol ≡ 0 → ⊥) → all_of (clear_from r) (same_of st.previous st.same r) ≡ fits st r
      unfolding fits good_range
      fit_other f z = rw (e, follow b st.previous h is_b, f, ne_eqb r.protocol 0 z)

-- what is known of those of the last version
abbrev pub Ranked : List ℕ → Option Range → List Range → ℕ → Type 0
Ranked v None same from = Unit {0}
Ranked v (Some p) same from = Ranks v (width_of p.version) from (length same) p

fits_good : (st : Seen) (r : Range) → fits st r ≡ true → (good_range r ≡ true) × (follows st.previous r ≡ true)
unfolding fits
fits_good st r e =
    let a = both (good_range r) (follows st.previous r && (eqb r.protocol 0 || all_of (clear_from r) (same_of st.previous st.same r))) e in
    (a.0, (both (follows st.previous r) (eqb r.protocol 0 || all_of (clear_from r) (same_of st.previous st.same r)) a.1).0)

-- where the ranges of the last version start
abbrev pub Begun : List ℕ → Option Range → List Range → ℕ → ℕ → Type 0
Begun v None same from at = from ≡ at
Begun v (Some p) same from at = Stands v (width_of p.version) from same at

module _ (v : List ℕ) (at w from start : ℕ) (q : Option RangeBytes) (is_w : w ≡ width_of (get_or v at 0)) (is_s : start ≡ started_at q (get_or v at 0) from at) where
  version_of : (i k : ℕ) → (range_in v i k).version ≡ get_or v i 0
  unfolding range_in
  version_of i k = refl

  -- the range before is of this version, or the ranges of this version start here
  by_version : (G : List Range → Type 0) (p : Range) (same : List Range) → (x : Option RangeBytes) → Preceded (Some p) x → start ≡ started_at x (get_or v at 0) from at
      → (start ≡ from → w ≡ width_of p.version → p.version ≡ (range_in v at w).version → G same) → (start ≡ at → G []) → G (same_of (Some p) same (range_in v at w))
  unfolding same_of started_at
  by_version G p same None h s f g = absurd h
  by_version G p same (Some r) h s f g = go (eqb r.version (get_or v at 0)) refl
    where
      is_p : p.version ≡ r.version
      is_p = ap (λ (x : Range). x.version) h.0 ∙ unfold range_lent in refl

      go : (t : Bool) → eqb r.version (get_or v at 0) ≡ t → G (cond (eqb p.version (range_in v at w).version) same [])
      go true d =
          let u : p.version ≡ get_or v at 0 = is_p ∙ eqb-true r.version (get_or v at 0) d in
          rw (is_p, version_of at w, d) (f (s ∙ rw d) (is_w ∙ ap width_of (sym u)) (u ∙ sym (version_of at w)))
      go false d = rw (is_p, version_of at w, d) (g (s ∙ rw d))

  pub started : (o : Option Range) (same : List Range) → Preceded o q → Begun v o same from at → Stands v w start (same_of o same (range_in v at w)) at
  unfolding same_of started_at
  started None same h b = none q h is_s
    where
      none : (x : Option RangeBytes) → Preceded None x → start ≡ started_at x (get_or v at 0) from at → start ≡ at
      none None h s = s ∙ b
      none (Some r) h s = absurd h
  started (Some p) same h b = by_version (λ l. Stands v w start l at) p same q h is_s (λ s k q. rw (s, k) b) (λ s. s)

  pub rising : (o : Option Range) (same : List Range) → Preceded o q → Ranked v o same from → Rising v w start (length (same_of o same (range_in v at w)))
  unfolding same_of
  rising None same h b = rising_none v w start
  rising (Some p) same h b = by_version (λ l. Rising v w start (length l)) p same q h is_s (λ s k q. rw (s, k) b.rising) (λ s. rising_none v w start)

  later : (o : Option Range) (same : List Range) → Preceded o q → Ranked v o same from → follows o (range_in v at w) ≡ true
      → (i : ℕ) → i < length (same_of o same (range_in v at w)) → Later (nth v w start i) (range_in v at w)
  unfolding same_of follows
  later None same h b f i = λ l. absurd (let z : ⊥ = omega arith in z)
  later (Some p) same h b f i = by_version (λ l. i < length l → Later (nth v w start i) (range_in v at w)) p same q h is_s (λ s k q j z.
      let u = b.under i j in
      let y = before_zero p (range_in v at w) f q z in
      let n : nth v w start i ≡ nth v (width_of p.version) from i = rw (s, ← k) in
      rw n ((u y.0).0, omega (arith, (u y.0).1, y.1)))
      (λ s j. absurd (let z : ⊥ = omega arith in z))

  pub ranked : (st : Seen) → Preceded st.previous q → Ranked v st.previous st.same from → Stands v w start (same_of st.previous st.same (range_in v at w)) at → fits st (range_in v at w) ≡ true
      → Ranked v (Some (range_in v at w)) (same_of st.previous st.same (range_in v at w) ++ (range_in v at w ∷ [])) start
  ranked st h b d f =
      let l : List Range = same_of st.previous st.same (range_in v at w) in
      let g = fits_good st (range_in v at w) f in
      let k : width_of (range_in v at w).version ≡ w = ap width_of (version_of at w) ∙ sym is_w in
      rw (k, length-append l (range_in v at w ∷ []))
      (ranks_more v w start at (length l) (stands-length v w start at l d) (rising st.previous st.same h b) (is_good (range_in v at w) g.0) (later st.previous st.same h b g.1))

  pub continued : (o : Option Range) (same : List Range) → Stands v w start (same_of o same (range_in v at w)) at → Begun v (Some (range_in v at w)) (same_of o same (range_in v at w) ++ (range_in v at w ∷ [])) start (at + (w + w + 2))
  continued o same h =
      let k : width_of (range_in v at w).version ≡ w = ap width_of (version_of at w) ∙ sym is_w in
      rw k (stands-more v w start at (same_of o same (range_in v at w)) h)

  version_lent : (r : RangeBytes) → r.version ≡ (range_lent r).version
  unfolding range_lent
  version_lent r = refl

  pub precedes : (r : RangeBytes) → range_lent r ≡ range_in v at w → Wide w r → Preceded (Some (range_in v at w)) (Some r)
  precedes r e l =
      let k : width_of r.version ≡ w = ap width_of (version_lent r ∙ ap (λ (x : Range). x.version) e ∙ version_of at w) ∙ sym is_w in
      (sym e, rw k l)

-- ---- the types

module _ (v : List ℕ) where
  pub request_none : length v ≡ 0 → are_good good_requests (entries entry_at v) ≡ false
  unfolding are_good good_requests entries entries_by onwards entry_at
  request_none e = let n : v ≡ [] = drop_of_length-le v {i = 0} (omega arith) in rw n

  pub request_some : 0 < length v → are_good (all_of asks) (entries entry_at v) ≡ are_good good_requests (entries entry_at v)
  request_some h = go (entry_at v) refl
    where
      go : (s : Step Entry) → entry_at v ≡ s → are_good (all_of asks) (entries entry_at v) ≡ are_good good_requests (entries entry_at v)
      go done d = L.entry_not_end v h d
      go malformed d = judged_malformed entry_at L.entry_shrinks (all_of asks) v d ∙ sym (judged_malformed entry_at L.entry_shrinks good_requests v d)
      go (next e rest) d =
          judged-next entry_at L.entry_shrinks (all_of asks) v rest e (asks e) (all_of asks) (λ es. unfold all_of in refl) d
          ∙ sym (judged-next entry_at L.entry_shrinks good_requests v rest e (asks e) (all_of asks) (λ es. unfold good_requests all_of in refl) d)
