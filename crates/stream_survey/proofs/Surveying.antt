-- A table looked through from its first record to its last, by what one record more at the end adds. Assumes nothing.
use Rattle.std.specs.Prelude.{Option, Some, None}
use Rattle.walks.proofs.Words.{◌≡◌, refl, sym, ap, subst, ◌∙◌, ℕ, suc, ◌+◌, ◌%◌, ◌≤◌, ◌<◌, add-one, arith, Bool, true, false, cond, ◌&&◌, ◌||◌, or-true, or-false, true≢false, false≢true, List, [], ◌∷◌, ◌++◌, append-nil, leb, ltb, eqb, length, get_or, set, take, drop, length-set, length-take, take-append-drop, take-suc, take-length, take-take, append_snoc, get_or-set_same, eqb-true, eqb-false, eq-eqb, ne_eqb, leb-true, leb-false, lt-ltb}
use Rattle.std.specs.List.{list_any, All}
use Rattle.std.proofs.lemmas.List.Elements.{All-head, All-tail}
use mathlib.Core.Bool.{or_assoc}
use Rattle.stream_survey.proofs.Terms.{StreamRecord, after, Survey, flag, blank, is_used, is_blank, is_bad_record, holds, Table, any_bad, stands_in, stands_twice, is_bad, next, find, lookup_of, survey_below, survey_of, nothing_seen, fitting, looked_used, looked_free, lookup_in, blank-is}
use Rattle.stream_survey.proofs.{Blanks.Occupied, Blanks.IsBlank, Buckets.Marked, Buckets.unmarked, Buckets.stay, Buckets.marked_more}

-- ---- tests joined

-- the record twice, the record bad; more than 64, a bad one before, one twice before
joined : (w x m a t : Bool) → ((w || x) || (m || (a || t))) ≡ (m || ((a || x) || (w || t)))
joined w x true a t = or-true (w || x)
joined true x false a t = sym (or-true (a || x))
joined false x false true t = or-true x
joined false x false false t = refl

-- the first and the last of some records each against those between, and against each other
paired : (u v e s s' t : Bool) → ((u && (s || (v && e))) || ((v && s') || t)) ≡ ((v && ((u && e) || s')) || ((u && s) || t))
paired false false e s s' t = refl
paired false true e s s' t = refl
paired true false e s s' t = ap (λ (x : Bool). x || t) (or-false s)
paired true true e true s' t = sym (or-true (e || s'))
paired true true e false s' t = sym (or_assoc e s' t)

eqb_turned : (a b : ℕ) → eqb a b ≡ eqb b a
eqb_turned a b = go (eqb a b) refl
  where
    go : (x : Bool) → eqb a b ≡ x → eqb a b ≡ eqb b a
    go true e = e ∙ sym (eq-eqb b a (sym (eqb-true a b e)))
    go false e = e ∙ sym (ne_eqb b a (λ f. eqb-false a b e (sym f)))

-- ---- one record more, at the end

later : (b c : Bool) (n : ℕ) (f : Option ℕ) → cond c (Some 0) (next (after n b f)) ≡ after (suc n) b (cond c (Some 0) (next f))
unfolding after next
later b true n f = refl
later true false n None = refl
later false false n None = refl
later b false n (Some i) = refl

module _ (r : StreamRecord) where
  any_more : (u : Table) → any_bad (u ++ (r ∷ [])) ≡ (any_bad u || is_bad_record r)
  unfolding any_bad
  any_more [] = or-false (is_bad_record r)
  any_more (x ∷ u) = ap (λ (b : Bool). is_bad_record x || b) (any_more u) ∙ sym (or_assoc (is_bad_record x) (any_bad u) (is_bad_record r))

  module _ (q : ℕ) where
    stands-more : (u : Table) → stands_in q (u ++ (r ∷ [])) ≡ (stands_in q u || holds q r)
    unfolding stands_in
    stands-more [] = or-false (holds q r)
    stands-more (x ∷ u) = ap (λ (b : Bool). holds q x || b) (stands-more u) ∙ sym (or_assoc (holds q x) (stands_in q u) (holds q r))

    find-more : (u : Table) → find q (u ++ (r ∷ [])) ≡ after (length u) (holds q r) (find q u)
    unfolding find next after
    find-more [] = refl
    find-more (x ∷ u) = ap (λ (f : Option ℕ). cond (holds q x) (Some 0) (next f)) (find-more u) ∙ later (holds q r) (holds q x) (length u) (find q u)

  -- the quarters of two records, of which the other stands last
  clash : (x : StreamRecord) (s s' t : Bool)
      → ((is_used x && (s || holds x.quarter.0 r)) || ((is_used r && s') || t)) ≡ ((is_used r && (holds r.quarter.0 x || s')) || ((is_used x && s) || t))
  unfolding holds
  clash x s s' t =
      ap (λ (e : Bool). (is_used x && (s || (is_used r && e))) || ((is_used r && s') || t)) (eqb_turned r.quarter.0 x.quarter.0)
      ∙ paired (is_used x) (is_used r) (eqb x.quarter.0 r.quarter.0) s s' t

  twice-more : (u : Table) → stands_twice (u ++ (r ∷ [])) ≡ ((is_used r && stands_in r.quarter.0 u) || stands_twice u)
  unfolding stands_twice stands_in
  twice-more [] = refl
  twice-more (x ∷ u) =
      (λ k. (is_used x && stands-more x.quarter.0 u k) || twice-more u k)
      ∙ clash x (stands_in x.quarter.0 u) (stands_in r.quarter.0 u) (stands_twice u)

-- ---- searched up to a place

pub stands-any : (q : ℕ) (t : Table) → stands_in q t ≡ list_any (holds q) t
unfolding stands_in
stands-any q [] = refl
stands-any q (r ∷ rs) = ap (λ (b : Bool). holds q r || b) (stands-any q rs)

-- ---- the survey of some records

abbrev seen_of : ℕ → ℕ → Table → Survey
seen_of q n u = record { bad = ltb 64 n || (any_bad u || stands_twice u); place = find q u }

none_seen : (q n : ℕ) → nothing_seen n ≡ seen_of q n []
unfolding nothing_seen any_bad stands_twice find
none_seen q n = ap (λ (b : Bool). record { bad = b; place = None }) (sym (or-false (ltb 64 n)))

none_more : (k : ℕ) (f : Option ℕ) → f ≡ after k false f
unfolding after
none_more k None = refl
none_more k (Some i) = refl

module _ (q n : ℕ) (r : StreamRecord) (u : Table) where
  abbrev more : Bool → Option ℕ → Survey
  more b place = record { bad = b; place = place }

  -- what the record adds, by whether it is used
  by_use : (v : Bool) → is_used r ≡ v
      → more (ltb 64 n || ((any_bad u || is_bad_record r) || ((v && stands_in r.quarter.0 u) || stands_twice u))) (after (length u) (v && eqb r.quarter.0 q) (find q u))
      ≡ seen_of q n (u ++ (r ∷ []))
  unfolding holds
  by_use v e =
      (λ k. more
      (ltb 64 n || ((any_bad u || is_bad_record r) || ((sym e k && stands_in r.quarter.0 u) || stands_twice u)))
      (after (length u) (sym e k && eqb r.quarter.0 q) (find q u)))
      ∙ (λ k. more (ltb 64 n || (sym (any_more r u) k || sym (twice-more r u) k)) (sym (find-more r q u) k))

  one_used : is_used r ≡ true → looked_used (seen_of q n u) r (length u) (stands_in r.quarter.0 u) q ≡ seen_of q n (u ++ (r ∷ []))
  unfolding looked_used
  one_used e =
      (λ k. more
      (joined (stands_in r.quarter.0 u) (is_bad_record r) (ltb 64 n) (any_bad u) (stands_twice u) k)
      (after (length u) (eqb r.quarter.0 q) (find q u)))
      ∙ by_use true e

  one_free : is_used r ≡ false → looked_free (seen_of q n u) r ≡ seen_of q n (u ++ (r ∷ []))
  unfolding looked_free
  one_free e =
      (λ k. more (joined false (is_bad_record r) (ltb 64 n) (any_bad u) (stands_twice u) k) (none_more (length u) (find q u) k))
      ∙ by_use false e

-- blanks at the end add nothing
more_blanks : (q n : ℕ) (u v : Table) → All IsBlank v → seen_of q n (u ++ v) ≡ seen_of q n u
unfolding looked_free is_bad_record is_blank flag
more_blanks q n u [] h = ap (seen_of q n) (append-nil u)
more_blanks q n u (r ∷ v) h =
    ap (seen_of q n) (sym (append_snoc u r v))
    ∙ more_blanks q n (u ++ (r ∷ [])) v (All-tail IsBlank r v h)
    ∙ ap (λ (x : StreamRecord). seen_of q n (u ++ (x ∷ []))) (blank-is r (All-head IsBlank r v h))
    ∙ sym (one_free q n blank u refl)

blanks_after : (q : ℕ) (t : Table) (n i : ℕ) → Occupied t n i → survey_below q t i ≡ survey_below q t n
unfolding survey_below
blanks_after q t n i o =
    sym (more_blanks q (length t) (take i t) (drop i (take n t)) o.1)
    ∙ ap (λ (u : Table). seen_of q (length t) (u ++ drop i (take n t))) (sym (take-take i n t o.0))
    ∙ ap (seen_of q (length t)) (take-append-drop i (take n t))

-- ---- looked through

pub fits-within : (n : ℕ) → fitting n ≤ n
unfolding fitting
fits-within n = go (leb n 64)
  where
    go : (b : Bool) → cond b n 0 ≤ n
    go true = omega arith
    go false = omega arith

-- as many as are looked at
fits_few : (n i : ℕ) → i < fitting n → (n ≤ 64) × (i < n)
unfolding fitting
fits_few n i l = go (leb n 64) refl l
  where
    go : (b : Bool) → leb n 64 ≡ b → i < cond b n 0 → (n ≤ 64) × (i < n)
    go true e h = (leb-true n 64 e, h)
    go false e h = absurd (let z : ⊥ = omega arith in z)

-- the records below `end` are looked through; those after it, of as many as fit, are blanks
module _ (q : ℕ) (t : Table) (end : ℕ) (o : Occupied t (fitting (length t)) end) where
  -- a place below
  pub inside : (i : ℕ) → i < end → (length t ≤ 64) × (i < length t)
  inside i l = fits_few (length t) i (omega (arith, o.0))

  pub record Known (seen : List Bool) (s : Survey) (i : ℕ) : Type 0 where
    pub is : s ≡ survey_below q t i
    pub marks : Marked seen (take i t)

  pub record Surveyed (seen : List Bool) (s : Survey) (i : ℕ) : Type 0 where
    pub within : i ≤ end
    pub size : length seen ≡ 256
    pub fits : length t ≤ 64 → Known seen s i
    pub over : 64 < length t → s ≡ nothing_seen (length t)

  pub surveyed_first : (seen : List Bool) (s : Survey) → length seen ≡ 256 → s ≡ nothing_seen (length t) → Surveyed seen s 0
  unfolding Marked survey_below
  surveyed_first seen s l e = record {
    within = omega arith;
    size = l;
    fits = λ _. record { is = e ∙ none_seen q (length t); marks = tt };
    over = λ _. e;
  }

  module _ (seen : List Bool) (s s' : Survey) (i : ℕ) (p : i < end) (h : Surveyed seen s i) (r : StreamRecord) (r-is : r ≡ get_or t i blank) where
    below : i < length t
    below = (inside i p).1

    few : length t ≤ 64
    few = (inside i p).0

    known : Known seen s i
    known = h.fits few

    before : length (take i t) ≡ i
    before = let l : i < length t = below in omega (arith, length-take i t)

    snoc : take (i + 1) t ≡ take i t ++ (r ∷ [])
    snoc = ap (λ (k : ℕ). take k t) (add-one i) ∙ take-suc t i blank below ∙ ap (λ (x : StreamRecord). take i t ++ (x ∷ [])) (sym r-is)

    -- one record more, whatever is made of it
    onward : (seen' : List Bool) (f : Survey → Survey) → length seen' ≡ 256 → s' ≡ f s → f (seen_of q (length t) (take i t)) ≡ seen_of q (length t) (take i t ++ (r ∷ []))
        → Marked seen' (take i t ++ (r ∷ [])) → Surveyed seen' s' (i + 1)
    unfolding survey_below
    onward seen' f l e one m = record {
      within = omega arith;
      size = l;
      fits = λ _. record {
        is = e ∙ ap f known.is ∙ one ∙ ap (seen_of q (length t)) (sym snoc);
        marks = subst (Marked seen') (sym snoc) m;
      };
      over = λ g. absurd (let n : ⊥ = omega (arith, few, g) in n);
    }

    pub surveyed_free : is_used r ≡ false → s' ≡ looked_free s r → Surveyed seen s' (i + 1)
    surveyed_free free e =
        onward seen (λ (v : Survey). looked_free v r) h.size e (one_free q (length t) r (take i t) free)
        (marked_more seen r (take i t) known.marks (λ y. absurd (true≢false (sym y ∙ free))))

    module _ (b : ℕ) (b-is : b ≡ r.quarter.0 % 256) where
      -- the records before are searched where they must be
      searched_right : (get_or seen b false && stands_in r.quarter.0 (take i t)) ≡ stands_in r.quarter.0 (take i t)
      searched_right = go (get_or seen b false) refl
        where
          go : (m : Bool) → get_or seen b false ≡ m → (m && stands_in r.quarter.0 (take i t)) ≡ stands_in r.quarter.0 (take i t)
          go true y = refl
          go false y = sym (unmarked seen r.quarter.0 (take i t) known.marks (λ m. false≢true (sym y ∙ rw b-is m)))

      pub surveyed_used : (twice : Bool) → is_used r ≡ true → twice ≡ (get_or seen b false && stands_in r.quarter.0 (take i t)) → s' ≡ looked_used s r i twice q
          → Surveyed (set seen b true) s' (i + 1)
      surveyed_used twice used w e =
          let l : b < length seen = omega (arith, h.size, b-is) in
          onward (set seen b true) (λ (v : Survey). looked_used v r (length (take i t)) (stands_in r.quarter.0 (take i t)) q) (length-set seen b true ∙ h.size)
          (e ∙ (λ k. looked_used s r (sym before k) ((w ∙ searched_right) k) q))
          (one_used q (length t) r (take i t) used)
          (marked_more (set seen b true) r (take i t) (stay seen b l (take i t) known.marks)
          (λ _. subst (λ (k : ℕ). get_or (set seen b true) k false ≡ true) b-is (get_or-set_same seen b true false l)))

  pub surveyed_end : (seen : List Bool) (s : Survey) (i : ℕ) → end ≤ i → Surveyed seen s i → s ≡ survey_of q t
  unfolding survey_of fitting
  surveyed_end seen s i z h = go (leb (length t) 64) refl
    where
      go : (b : Bool) → leb (length t) 64 ≡ b → s ≡ cond (leb (length t) 64) (survey_below q t (length t)) (nothing_seen (length t))
      go true x =
          let all : fitting (length t) ≡ length t = ap (λ (b : Bool). cond b (length t) 0) x in
          let e : i ≡ end = omega (arith, h.within, z) in
          let o' : Occupied t (length t) end = subst (λ (n : ℕ). Occupied t n end) all o in
          rw x ((h.fits (leb-true (length t) 64 x)).is ∙ ap (survey_below q t) e ∙ blanks_after q t (length t) end o')
      go false x = rw x (h.over (leb-false (length t) 64 x))

-- ---- the answer out of the survey

pub lookup_right : (q : ℕ) (t : Table) (s : Survey) → s ≡ survey_of q t → lookup_in s t ≡ lookup_of q t
unfolding survey_of survey_below nothing_seen lookup_in lookup_of is_bad
lookup_right q t s e = rw e (go (leb (length t) 64) refl)
  where
    go : (b : Bool) → leb (length t) 64 ≡ b → lookup_in (cond b (survey_below q t (length t)) (nothing_seen (length t))) t ≡ lookup_of q t
    go true x = rw (take-length t) refl
    go false x = rw (lt-ltb 64 (length t) (leb-false (length t) 64 x))
