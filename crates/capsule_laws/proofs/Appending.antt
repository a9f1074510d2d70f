-- What the book makes of a piece, in one step: by what stands at the front of the tail and the piece. Assumes nothing.
use Rattle.walks.proofs.Words.{◌≡◌, refl, sym, ap, ◌∙◌, subst, ℕ, suc, ◌+◌, ◌-◌, ◌≤◌, ◌<◌, arith, None, Some, List, [], ◌∷◌, ◌++◌, append_assoc, append-nil, length, take, drop, length-append, take-append-drop, drop-append_seam, length-take-le}
use Rattle.capsule_laws.proofs.Terms.{Bytes, Opening, Extent, Stage, in_type, Front, part, whole, front_by, Capsule, capsule_at, Parts, ahead, extent_of, parts_for, first_of, completes, Taken, append}
use Rattle.capsule_laws.proofs.Grammar.{Sees, front_is, sees, complete, next, parts_is, parts_cut, parts_nil, parts-append, parts_part, parts-one, part_none, tail_sees, tail-bytes}

-- the capsule whose bytes are l, behind a head of j bytes
abbrev pub one : ℕ → ℕ → ℕ → List ℕ → Capsule
one t n j l = record { ctype = t; size = n; value = drop j l; bytes = l }

-- ---- the laws of the grammar, for what an opening has as complete

abbrev pub Shows : Opening → List ℕ → Front → Type 0
Shows op s x = Sees (extent_of op) s x

pub shows : (op : Opening) (s : List ℕ) → Shows op s (front_by (extent_of op) s)
shows op s = sees (extent_of op) s

pub for_nil : (op : Opening) → parts_for op [] ≡ record { capsules = []; tail = []; stage = in_type }
unfolding parts_for
for_nil op = parts_nil (extent_of op)

pub for_append : (op : Opening) (s x : List ℕ) → parts_for op (s ++ x) ≡ ahead (parts_for op s).capsules (parts_for op ((parts_for op s).tail ++ x))
unfolding parts_for
for_append op s x = parts-append (extent_of op) s x

pub for_part : (op : Opening) (s : List ℕ) (x : Stage) → Shows op s (part x) → parts_for op s ≡ record { capsules = []; tail = s; stage = x }
unfolding parts_for
for_part op s x v = parts_part s x v

pub for_next : (op : Opening) (s : List ℕ) (t n j : ℕ) → Shows op s (whole t n j)
    → parts_for op s ≡ ahead (capsule_at (extent_of op) s t n j ∷ []) (parts_for op (drop (j + extent_of op t n) s))
unfolding parts_for
for_next op s t n j v = parts_is (next v (parts_cut (extent_of op) (drop (j + extent_of op t n) s)))

pub for_one : (op : Opening) (s : List ℕ) (t n j : ℕ) → Shows op s (whole t n j) → j + extent_of op t n ≡ length s
    → parts_for op s ≡ record { capsules = one t n j s ∷ []; tail = []; stage = in_type }
unfolding parts_for
for_one op s t n j v h = parts-one s t n j v h

pub tail_shows : (op : Opening) (s : List ℕ) → Shows op (parts_for op s).tail (part (parts_for op s).stage)
unfolding parts_for
tail_shows op s = tail_sees (extent_of op) s

pub for_bytes : (op : Opening) (s : List ℕ) → Bytes s → Bytes (parts_for op s).tail
unfolding parts_for
for_bytes op s h = tail-bytes (extent_of op) s h

-- ---- the parts of a stream that goes on by q, of which r was the tail

module _ (op : Opening) (s q : List ℕ) where
  pub parts_goes : (y : Stage) → Shows op ((parts_for op s).tail ++ q) (part y)
      → parts_for op (s ++ q) ≡ record { capsules = (parts_for op s).capsules; tail = (parts_for op s).tail ++ q; stage = y }
  parts_goes y v = rw (for_append op s q, for_part op ((parts_for op s).tail ++ q) y v, append-nil)

  pub parts-ends : (t n j : ℕ) → Shows op ((parts_for op s).tail ++ q) (whole t n j) → j + extent_of op t n ≡ length ((parts_for op s).tail ++ q)
      → parts_for op (s ++ q) ≡ record { capsules = (parts_for op s).capsules ++ (one t n j ((parts_for op s).tail ++ q) ∷ []); tail = []; stage = in_type }
  parts-ends t n j v e = rw (for_append op s q, for_one op ((parts_for op s).tail ++ q) t n j v e)

-- ---- one byte

completes_none : (op : Opening) (s : List ℕ) (b : ℕ) (y : Stage) → Shows op ((parts_for op s).tail ++ (b ∷ [])) (part y) → completes op s b ≡ None
unfolding completes first_of
completes_none op s b y v =
    let e : drop (length (parts_for op s).capsules) ((parts_for op s).capsules ++ []) ≡ [] = drop-append_seam (parts_for op s).capsules [] in
    ap (λ (p : Parts). first_of (drop (length (parts_for op s).capsules) p.capsules)) (for_append op s (b ∷ []) ∙ ap (ahead (parts_for op s).capsules) (for_part op ((parts_for op s).tail ++ (b ∷ [])) y v))
    ∙ ap first_of e

completes_some : (op : Opening) (s : List ℕ) (b t n j : ℕ) → Shows op ((parts_for op s).tail ++ (b ∷ [])) (whole t n j) → j + extent_of op t n ≡ length ((parts_for op s).tail ++ (b ∷ []))
    → completes op s b ≡ Some (one t n j ((parts_for op s).tail ++ (b ∷ [])))
unfolding completes first_of
completes_some op s b t n j v e =
    ap (λ (p : Parts). first_of (drop (length (parts_for op s).capsules) p.capsules)) (parts-ends op s (b ∷ []) t n j v e)
    ∙ ap first_of (drop-append_seam (parts_for op s).capsules (one t n j ((parts_for op s).tail ++ (b ∷ [])) ∷ []))

pub append_on : (op : Opening) (s : List ℕ) (b : ℕ) (p : List ℕ) → completes op s b ≡ None
    → append op s (b ∷ p) ≡ record { stream = (append op (s ++ (b ∷ [])) p).stream; consumed = suc (append op (s ++ (b ∷ [])) p).consumed; capsule = (append op (s ++ (b ∷ [])) p).capsule }
unfolding append
append_on op s b p e = rw (e, append)

pub append_done : (op : Opening) (s : List ℕ) (b : ℕ) (p : List ℕ) (c : Capsule) → completes op s b ≡ Some c
    → append op s (b ∷ p) ≡ record { stream = s ++ (b ∷ []); consumed = 1; capsule = Some c }
unfolding append
append_done op s b p c e = rw (e, append)

-- ---- a whole piece: all of it is taken and no capsule ends, or the first c bytes, the last of which ends one

pub data Outcome (op : Opening) (s p : List ℕ) (k : Taken) : Type 0 where
  goes : (y : Stage) → Shows op ((parts_for op s).tail ++ p) (part y) → k ≡ record { stream = s ++ p; consumed = length p; capsule = None } → Outcome op s p k
  ends : (t n j c : ℕ) → Shows op ((parts_for op s).tail ++ take c p) (whole t n j) → j + extent_of op t n ≡ length ((parts_for op s).tail ++ take c p) → 0 < c → c ≤ length p
      → k ≡ record { stream = s ++ take c p; consumed = c; capsule = Some (one t n j ((parts_for op s).tail ++ take c p)) } → Outcome op s p k

module _ (op : Opening) (s : List ℕ) (b : ℕ) (p : List ℕ) where
  assoc : (r : List ℕ) → r ++ (b ∷ []) ++ p ≡ r ++ b ∷ p
  assoc r = append_assoc r (b ∷ []) p

  module _ (y : Stage) (v : Shows op ((parts_for op s).tail ++ (b ∷ [])) (part y)) where
    tail_on : (q : List ℕ) → (parts_for op (s ++ (b ∷ []))).tail ++ q ≡ (parts_for op s).tail ++ b ∷ q
    tail_on q = ap (λ (x : Parts). x.tail ++ q) (parts_goes op s (b ∷ []) y v) ∙ append_assoc (parts_for op s).tail (b ∷ []) q

    first : append op s (b ∷ p) ≡ record { stream = (append op (s ++ (b ∷ [])) p).stream; consumed = suc (append op (s ++ (b ∷ [])) p).consumed; capsule = (append op (s ++ (b ∷ [])) p).capsule }
    first = append_on op s b p (completes_none op s b y v)

    out_on : Outcome op (s ++ (b ∷ [])) p (append op (s ++ (b ∷ [])) p) → Outcome op s (b ∷ p) (append op s (b ∷ p))
    out_on (goes z w e) =
        goes z (subst (λ (l : List ℕ). Shows op l (part z)) (tail_on p) w)
        (first ∙ ap (λ (k : Taken). record { stream = k.stream; consumed = suc k.consumed; capsule = k.capsule }) e
        ∙ (λ i. record { stream = assoc s i; consumed = suc (length p); capsule = None }))
    out_on (ends t n j c w l f g e) =
        let m : b ∷ take c p ≡ take (suc c) (b ∷ p) = refl in
        ends t n j (suc c) (subst (λ (l : List ℕ). Shows op l (whole t n j)) (tail_on (take c p)) w) (l ∙ ap (λ (l : List ℕ). length l) (tail_on (take c p))) (omega arith) (omega arith)
        (first ∙ ap (λ (k : Taken). record { stream = k.stream; consumed = suc k.consumed; capsule = k.capsule }) e
        ∙ (λ i. record { stream = append_assoc s (b ∷ []) (take c p) i; consumed = suc c; capsule = Some (one t n j (tail_on (take c p) i)) }))

  out_done : (t n j : ℕ) → Shows op ((parts_for op s).tail ++ (b ∷ [])) (whole t n j) → Outcome op s (b ∷ p) (append op s (b ∷ p))
  out_done t n j v =
      let f = complete v in
      let g = part_none (parts_for op s).tail (parts_for op s).stage (b ∷ []) t n j (tail_shows op s) v in
      let l : length ((parts_for op s).tail ++ (b ∷ [])) ≡ length (parts_for op s).tail + 1 = length-append (parts_for op s).tail (b ∷ []) in
      let e : j + extent_of op t n ≡ length ((parts_for op s).tail ++ (b ∷ [])) = omega (arith, f.fits) in
      ends t n j 1 v e (omega arith) (omega arith) (append_done op s b p (one t n j ((parts_for op s).tail ++ (b ∷ []))) (completes_some op s b t n j v e))

pub outcome : (op : Opening) (p s : List ℕ) → Outcome op s p (append op s p)
unfolding append
outcome op [] s = goes (parts_for op s).stage (rw append-nil (tail_shows op s)) (λ i. record { stream = sym (append-nil s) i; consumed = 0; capsule = None })
outcome op (b ∷ p) s = go (outcome op p (s ++ (b ∷ []))) (front_by (extent_of op) ((parts_for op s).tail ++ (b ∷ []))) (shows op ((parts_for op s).tail ++ (b ∷ [])))
  where
    go : Outcome op (s ++ (b ∷ [])) p (append op (s ++ (b ∷ [])) p) → (x : Front) → Shows op ((parts_for op s).tail ++ (b ∷ [])) x → Outcome op s (b ∷ p) (append op s (b ∷ p))
    go o (part y) v = out_on op s b p y v o
    go o (whole t n j) v = out_done op s b p t n j v

-- ---- the same by the front of the tail and the whole piece

no_both {ℓ} : {X : Type ℓ} {ext : Extent} {l : List ℕ} {y : Stage} {t n j : ℕ} → Sees ext l (part y) → Sees ext l (whole t n j) → X
no_both {y = y} {t = t} {n = n} {j = j} v w =
    let e : part y ≡ whole t n j = sym (front_is v) ∙ front_is w in
    let z : ◌≡◌ {A = ℕ} 0 1 = cc in absurd (let n : ⊥ = omega arith in n)

front_of : (op : Opening) (r p : List ℕ) (c t n j : ℕ) → Shows op (r ++ take c p) (whole t n j) → Shows op (r ++ p) (whole t n j)
front_of op r p c t n j v =
    subst (λ (l : List ℕ). Shows op l (whole t n j)) (append_assoc r (take c p) (drop c p) ∙ ap (λ (l : List ℕ). r ++ l) (take-append-drop c p)) ((complete v).stays (drop c p))

pub append_goes : (op : Opening) (s p : List ℕ) (y : Stage) → Shows op ((parts_for op s).tail ++ p) (part y) → append op s p ≡ record { stream = s ++ p; consumed = length p; capsule = None }
append_goes op s p y v = go (outcome op p s)
  where
    go : Outcome op s p (append op s p) → append op s p ≡ record { stream = s ++ p; consumed = length p; capsule = None }
    go (goes z w e) = e
    go (ends t n j c w l f g e) = no_both v (front_of op (parts_for op s).tail p c t n j w)

-- what ends: so many bytes of the piece, of which there is one, and which end the capsule
pub record Ends (op : Opening) (s p : List ℕ) (t n j : ℕ) : Type 0 where
  pub count : ℕ
  pub some_byte : 0 < count
  pub most : count ≤ length p
  pub last : count ≡ j + extent_of op t n - length (parts_for op s).tail
  pub all : j + extent_of op t n ≡ length ((parts_for op s).tail ++ take count p)
  pub seen : Shows op ((parts_for op s).tail ++ take count p) (whole t n j)
  pub is : append op s p ≡ record { stream = s ++ take count p; consumed = count; capsule = Some (one t n j ((parts_for op s).tail ++ take count p)) }

pub append-ends : (op : Opening) (s p : List ℕ) (t n j : ℕ) → Shows op ((parts_for op s).tail ++ p) (whole t n j) → Ends op s p t n j
append-ends op s p t n j v = go (outcome op p s)
  where
    go : Outcome op s p (append op s p) → Ends op s p t n j
    go (goes z w e) = no_both w v
    go (ends t' n' j' c w l f g e) =
        let x : whole t' n' j' ≡ whole t n j = sym (front_is (front_of op (parts_for op s).tail p c t' n' j' w)) ∙ front_is v in
        let a : t' ≡ t = cc in
        let b : n' ≡ n = cc in
        let d : j' ≡ j = cc in
        let m : extent_of op t' n' ≡ extent_of op t n = cc in
        let h : length ((parts_for op s).tail ++ take c p) ≡ length (parts_for op s).tail + length (take c p) = length-append (parts_for op s).tail (take c p) in
        let i : length (take c p) ≡ c = length-take-le c p g in
        record {
          count = c;
          some_byte = f;
          most = g;
          last = omega arith;
          all = rw (← d, ← m) l;
          seen = rw (← a, ← b, ← d) w;
          is = rw (← a, ← b, ← d) e;
        }
