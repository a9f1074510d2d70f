-- The search among the ranges of one version that stand before a range: they are clear from it exactly if the first one that is not wholly below it,
-- or is for another protocol, is. Assumes nothing.
use Rattle.walks.proofs.Words.{◌≡◌, refl, sym, ap, ◌∙◌, Bool, true, false, ◌&&◌, and-false, or-true, ℕ, zero, suc, ◌+◌, ◌-◌, ◌*◌, ◌/◌, ◌≤◌, ◌<◌, suc-mul, le-div_iff_mul-le, mul-div_cancel, div-mul-le_self, mul-le-mul_left, arith, List, [], ◌∷◌, length, ltb, eqb, lt-ltb, le-ltb, ltb-true, eq-eqb, eqb-true}
use Rattle.address_rules.proofs.Terms.{split, both, Range, all_of, disjoint, clear_from, range_in, Stands, nth, Later, Rising}

-- ---- the list of the ranges, by their numbers

shift : (v : List ℕ) (w from i : ℕ) → nth v w (from + (w + w + 2)) i ≡ nth v w from (suc i)
shift v w from i =
    let m : suc i * (w + w + 2) ≡ i * (w + w + 2) + (w + w + 2) = suc-mul i (w + w + 2) in
    let e : from + (w + w + 2) + i * (w + w + 2) ≡ from + suc i * (w + w + 2) = omega arith in
    ap (λ (n : ℕ). range_in v n w) e

first : (v : List ℕ) (w from : ℕ) → range_in v from w ≡ nth v w from 0
first v w from = let e : from ≡ from + 0 * (w + w + 2) = omega arith in ap (λ (n : ℕ). range_in v n w) e

pub stands-length : (v : List ℕ) (w from at : ℕ) (l : List Range) → Stands v w from l at → at ≡ from + length l * (w + w + 2)
stands-length v w from at [] h = omega arith
stands-length v w from at (s ∷ l) h =
    let m : suc (length l) * (w + w + 2) ≡ length l * (w + w + 2) + (w + w + 2) = suc-mul (length l) (w + w + 2) in
    omega (arith, stands-length v w (from + (w + w + 2)) at l h.1)

pub all_by_number : (good : Range → Bool) (v : List ℕ) (w from at : ℕ) (l : List Range) → Stands v w from l at
    → ((i : ℕ) → i < length l → good (nth v w from i) ≡ true) → true ≡ all_of good l
unfolding all_of
all_by_number good v w from at [] h f = refl
all_by_number good v w from at (s ∷ l) h f =
    let g : good s ≡ true = ap good (h.0 ∙ first v w from) ∙ f 0 (omega arith) in
    rw g (all_by_number good v w (from + (w + w + 2)) at l h.1 (λ i k. ap good (shift v w from i) ∙ f (suc i) (omega arith)))

pub one_by_number : (good : Range → Bool) (v : List ℕ) (w from at : ℕ) (l : List Range) → Stands v w from l at
    → (i : ℕ) → i < length l → good (nth v w from i) ≡ false → false ≡ all_of good l
unfolding all_of
one_by_number good v w from at [] h i k e = absurd (let z : ⊥ = omega arith in z)
one_by_number good v w from at (s ∷ l) h zero k e = rw (ap good (h.0 ∙ first v w from) ∙ e)
one_by_number good v w from at (s ∷ l) h (suc i) k e =
    let r : false ≡ all_of good l = one_by_number good v w (from + (w + w + 2)) at l h.1 i (omega arith) (ap good (shift v w from i) ∙ e) in
    rw (← r) (sym (and-false (good s)))

-- ---- the search

module _ (v : List ℕ) (w from at : ℕ) where
  abbrev here : Range
  here = range_in v at w

  abbrev number : ℕ → Range
  number i = nth v w from i

  -- for all protocols, and wholly below
  abbrev pub Low : ℕ → Type 0
  Low i = ((number i).protocol ≡ 0) × ((number i).end < here.start)

  pub record Searched (n low high : ℕ) : Type 0 where
    pub under : (i : ℕ) → i < low → Low i
    pub above : (i : ℕ) → high ≤ i → i < n → Low i → ⊥

  pub search_starts : (n : ℕ) → Searched n 0 n
  search_starts n = record { under = λ i h. absurd (let z : ⊥ = omega arith in z); above = λ i h l k. omega arith }

  module _ (n : ℕ) (r : Rising v w from n) (low high : ℕ) (s : Searched n low high) (middle : ℕ) (m : middle < n) where
    pub search_up : Low middle → Searched n (middle + 1) high
    search_up k = record { under = under'; above = s.above }
      where
        under' : (i : ℕ) → i < middle + 1 → Low i
        under' i h = split middle i (λ l. let e : middle ≡ i = omega arith in rw (← e) k) (λ l.
            let q = r.rises i middle l m k.0 in (q.0, omega (arith, q.1, r.proper middle m, k.1)))

    pub search_down : (Low middle → ⊥) → Searched n low middle
    search_down k = record { under = s.under; above = above' }
      where
        above' : (i : ℕ) → middle ≤ i → i < n → Low i → ⊥
        above' i h l p = split i middle (λ e. let e : i ≡ middle = omega arith in k (rw e at p)) (λ e.
            let q = r.rises middle i e l p.0 in k (q.0, omega (arith, q.1, r.proper i l, p.1)))

  low_clear : (i : ℕ) → Low i → clear_from here (number i) ≡ true
  unfolding clear_from disjoint
  low_clear i k = rw (le-ltb 0 (number i).protocol (omega (arith, k.0)), lt-ltb (number i).end here.start k.1)

  high_clear : (i : ℕ) → here.end < (number i).start → clear_from here (number i) ≡ true
  unfolding clear_from disjoint
  high_clear i k = rw (lt-ltb here.end (number i).start k, or-true (ltb (number i).end here.start)) (or-true (ltb 0 (number i).protocol))

  other_clear : (i : ℕ) → 0 < (number i).protocol → clear_from here (number i) ≡ true
  unfolding clear_from
  other_clear i k = rw (lt-ltb 0 (number i).protocol k)

  -- clear, for all protocols and not below: above
  is_high : (i : ℕ) → (number i).protocol ≡ 0 → here.start ≤ (number i).end → clear_from here (number i) ≡ true → here.end < (number i).start
  unfolding clear_from disjoint
  is_high i z k e = ltb-true here.end (number i).start (rw (le-ltb 0 (number i).protocol (omega arith), le-ltb (number i).end here.start k) at e)

  module _ (n : ℕ) (r : Rising v w from n) (low : ℕ) (s : Searched n low low) where
    pub all_clear : low < n → clear_from here (number low) ≡ true → (i : ℕ) → i < n → clear_from here (number i) ≡ true
    all_clear l c i h = split low i (λ k. split i low (λ j. let e : low ≡ i = omega arith in rw (← e) c) (λ j. behind j)) (λ k. low_clear i (s.under i k))
      where
        zero_behind : low < i → (number i).protocol ≡ 0 → clear_from here (number i) ≡ true
        zero_behind j z =
            let q = r.rises low i j h z in
            let k : here.start ≤ (number low).end = split here.start (number low).end (λ a. a) (λ a. absurd (s.above low (omega arith) l (q.0, a))) in
            high_clear i (omega (arith, is_high low q.0 k c, r.proper low l, q.1))

        behind : low < i → clear_from here (number i) ≡ true
        behind j = split (number i).protocol 0 (λ a. zero_behind j (omega arith)) (λ a. other_clear i a)

-- ---- numbers and places

pub place_of : (from at k i : ℕ) → 0 < k → from ≤ at → i < (at - from) / k → from + i * k + k ≤ at
place_of from at k i p h l =
    let m : suc i * k ≤ at - from = (le-div_iff_mul-le {x = suc i} {y = at - from} p).0 l in
    let e : suc i * k ≡ i * k + k = suc-mul i k in
    omega arith

-- what the code's test says
module _ (v : List ℕ) (w from at i : ℕ) where
  abbrev pub test : Bool
  test = eqb (nth v w from i).protocol 0 && ltb (nth v w from i).end (range_in v at w).start

  pub is_low : test ≡ true → Low v w from at i
  is_low e =
      let b = both (eqb (nth v w from i).protocol 0) (ltb (nth v w from i).end (range_in v at w).start) e in
      (eqb-true (nth v w from i).protocol 0 b.0, ltb-true (nth v w from i).end (range_in v at w).start b.1)

  pub not_low : test ≡ false → Low v w from at i → ⊥
  not_low e k =
      let t : test ≡ true = rw (eq-eqb (nth v w from i).protocol 0 k.0, lt-ltb (nth v w from i).end (range_in v at w).start k.1) in
      let n : ◌≡◌ {A = ℕ} 0 1 = cc in omega arith

-- ---- ranges go on rising

abbrev Below : Range → Range → Type 0
Below s p = p.protocol ≡ 0 → (s.protocol ≡ 0) × (s.end ≤ p.end)

pub record Ranks (v : List ℕ) (w from n : ℕ) (p : Range) : Type 0 where
  pub rising : Rising v w from n
  pub under : (i : ℕ) → i < n → Below (nth v w from i) p

pub rising_none : (v : List ℕ) (w from : ℕ) → Rising v w from 0
rising_none v w from = record { rises = λ i j h l. absurd (let z : ⊥ = omega arith in z); proper = λ i l. absurd (let z : ⊥ = omega arith in z) }

module _ (v : List ℕ) (w from at n : ℕ) (is_at : at ≡ from + n * (w + w + 2)) (r : Rising v w from n) (good : (range_in v at w).start ≤ (range_in v at w).end)
    (later : (i : ℕ) → i < n → Later (nth v w from i) (range_in v at w)) where
  newest : range_in v at w ≡ nth v w from n
  newest = ap (λ (k : ℕ). range_in v k w) is_at

  pub ranks_more : Ranks v w from (n + 1) (range_in v at w)
  ranks_more = record { rising = record { rises = rises'; proper = proper' }; under = under' }
    where
      rises' : (i j : ℕ) → i < j → j < n + 1 → Later (nth v w from i) (nth v w from j)
      rises' i j h l = split n j (λ k. let e : j ≡ n = omega arith in rw (e, ← newest) (later i (omega arith))) (λ k. r.rises i j h k)

      proper' : (i : ℕ) → i < n + 1 → (nth v w from i).start ≤ (nth v w from i).end
      proper' i l = split n i (λ k. let e : i ≡ n = omega arith in rw (e, ← newest) good) (λ k. r.proper i k)

      under' : (i : ℕ) → i < n + 1 → Below (nth v w from i) (range_in v at w)
      under' i l = split n i (λ k. let e : i ≡ n = omega arith in rw (e, ← newest) (λ z. (z, omega arith))) (λ k z. let q = later i k z in (q.0, omega (arith, q.1)))

pub count_half : (n w : ℕ) → n / (w + w + 2) + n / (w + w + 2) ≤ n
count_half n w =
    let c : ℕ = n / (w + w + 2) in
    let a : c * (w + w + 2) ≤ n = div-mul-le_self n (w + w + 2) in
    let two : 2 ≤ w + w + 2 = omega arith in
    let b : c * 2 ≤ c * (w + w + 2) = mul-le-mul_left c two in
    omega arith

-- ---- as the code answers

module _ (v : List ℕ) (w from at : ℕ) (l : List Range) (d : Stands v w from l at) where
  pub counts : (at - from) / (w + w + 2) ≡ length l
  counts = let e : at - from ≡ length l * (w + w + 2) = omega (arith, stands-length v w from at l d) in rw e (mul-div_cancel (length l) (omega arith))

  module _ (r : Rising v w from (length l)) (low : ℕ) (s : Rising v w from ((at - from) / (w + w + 2)) → Searched v w from at ((at - from) / (w + w + 2)) low low) where
    searched : Searched v w from at (length l) low low
    searched = rw counts at (s (rw counts r))

    pub ends_low : low ≡ (at - from) / (w + w + 2) → true ≡ all_of (clear_from (range_in v at w)) l
    ends_low e = all_by_number (clear_from (range_in v at w)) v w from at l d (λ i h. low_clear v w from at i (searched.under i (omega (arith, e, counts))))

    pub ends_at : low < (at - from) / (w + w + 2) → (b : Bool) → b ≡ clear_from (range_in v at w) (nth v w from low) → b ≡ all_of (clear_from (range_in v at w)) l
    ends_at h true e = all_by_number (clear_from (range_in v at w)) v w from at l d (all_clear v w from at (length l) r low searched (rw counts at h) (sym e))
    ends_at h false e = one_by_number (clear_from (range_in v at w)) v w from at l d low (rw counts at h) (sym e)
