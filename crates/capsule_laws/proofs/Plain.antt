-- What the book reads for an opening, against document 01's grammar. Assumes nothing.
use Rattle.walks.proofs.Words.{◌≡◌, sym, ap, ◌∙◌, subst, ℕ, ◌+◌, arith, List, [], ◌∷◌, ◌++◌, append-nil, length, take, drop, drop-length}
use Rattle.capsule_laws.proofs.Terms.{Opening, plain, Stage, in_type, in_value, part, whole, Capsule, capsule_at, Parts, ahead, parts_by, parts, extent_of, parts_for, zero_one, extent_most, Short, ShortStage, AllShort, ByTheGrammar, StopsAtTooLong}
use Rattle.capsule_laws.proofs.{Grammar.Sees, Grammar.sees_type, Grammar.sees_length, Grammar.sees_value, Grammar.sees_whole, Grammar.Cut, Grammar.end, Grammar.next, Grammar.parts_is, Grammar.parts_cut, Grammar.tail_sees, Grammar.parts-one, Appending.one}

-- a capsule of the grammar that is not too long is the book's
same_whole : (op : Opening) (s : List ℕ) (t n j : ℕ) → Short op t n → Sees plain s (whole t n j) → Sees (extent_of op) s (whole t n j)
same_whole op s t n j e (sees_whole {j = i} {k = k} a b h) = sees_whole a b (omega arith)

same_part : (op : Opening) (s : List ℕ) (x : Stage) → ShortStage op x → Sees plain s (part x) → Sees (extent_of op) s (part x)
same_part op s x e (sees_type a) = sees_type a
same_part op s x e (sees_length a b) = sees_length a b
same_part op s x e (sees_value a b h) = sees_value a b (omega arith)

-- what the book reads is what the grammar does, and then what the book reads of the tail
cut_for : (op : Opening) {s : List ℕ} {p q : Parts} → Cut plain s p → AllShort op p.capsules → Cut (extent_of op) p.tail q → Cut (extent_of op) s (ahead p.capsules q)
unfolding capsule_at
cut_for op (end v) h c = c
cut_for op {q = q} (next {s = s} {p = p} {t = t} {n = n} {j = j} v a) h c =
    let m : extent_of op t n ≡ n = h.0 in
    let again : Cut (extent_of op) (drop (j + extent_of op t n) s) (ahead p.capsules q) = rw m (cut_for op a h.1 c) in
    let x : capsule_at (extent_of op) s t n j ≡ capsule_at plain s t n j = ap (λ (k : ℕ). record { ctype = t; size = n; value = take k (drop j s); bytes = take (j + k) s }) m in
    subst (λ (c : Capsule). Cut (extent_of op) s (ahead (c ∷ []) (ahead p.capsules q))) x (next (same_whole op s t n j m v) again)

pub by_the_grammar : ByTheGrammar
unfolding parts_for
by_the_grammar op s h e =
    let t = tail_sees plain s in
    parts_is (cut_for op (parts_cut plain s) h (end (same_part op (parts s).tail (parts s).stage e t))) ∙ all_of (parts s)
  where
    all_of : (p : Parts) → ahead p.capsules (record { capsules = []; tail = p.tail; stage = p.stage }) ≡ p
    all_of p = λ i. record { capsules = append-nil p.capsules i; tail = p.tail; stage = p.stage }

over_seen : (op : Opening) (r : List ℕ) (x : Stage) (t n : ℕ) → x ≡ in_value t n (length r) → extent_of op t n ≡ 0 → Sees plain r (part x) → Sees (extent_of op) r (whole t n (length r))
over_seen op r x t n e z (sees_type a) = zero_one (cc)
over_seen op r x t n e z (sees_length a b) = zero_one (cc)
over_seen op r x t n e z (sees_value {t = u} {j = j} {n = m} {k = k} a b h) =
    let p : u ≡ t = cc in
    let q : m ≡ n = cc in
    let l : j + k ≡ length r = cc in
    let y : extent_of op u m ≡ 0 = cc in
    let w : Sees (extent_of op) r (whole u m (j + k)) = sees_whole a b (omega arith) in
    rw (← p, ← q, ← l) w

pub stops_at_too_long : StopsAtTooLong
unfolding parts_for
stops_at_too_long op s t n h e z =
    let r = (parts s).tail in
    let v = over_seen op r (parts s).stage t n e z (tail_sees plain s) in
    let one_left : parts_by (extent_of op) r ≡ record { capsules = one t n (length r) r ∷ []; tail = []; stage = in_type } = parts-one r t n (length r) v (omega arith) in
    parts_is (cut_for op (parts_cut plain s) h (parts_cut (extent_of op) r)) ∙ ap (ahead (parts s).capsules) one_left
    ∙ ap (λ (l : List ℕ). record { capsules = (parts s).capsules ++ (record { ctype = t; size = n; value = l; bytes = r } ∷ []); tail = []; stage = in_type }) (drop-length r)

-- ---- the other way: what the book reads, none of it too long, the grammar reads

plain-whole : (op : Opening) (s : List ℕ) (t n j : ℕ) → Short op t n → Sees (extent_of op) s (whole t n j) → Sees plain s (whole t n j)
plain-whole op s t n j e (sees_whole {j = i} {k = k} a b h) = sees_whole a b (omega arith)

-- a value that bytes are waited for is not too long
plain_part : (op : Opening) (s : List ℕ) (x : Stage) → Sees (extent_of op) s (part x) → Sees plain s (part x)
plain_part op s x (sees_type a) = sees_type a
plain_part op s x (sees_length a b) = sees_length a b
plain_part op s x (sees_value {t = t} {n = n} a b h) = sees_value a b (omega (arith, extent_most op t n))

plain_cut : (op : Opening) {s : List ℕ} {p : Parts} → Cut (extent_of op) s p → AllShort op p.capsules → Cut plain s p
unfolding capsule_at
plain_cut op (end {x = x} v) h = end (plain_part op _ x v)
plain_cut op (next {s = s} {p = p} {t = t} {n = n} {j = j} v a) h =
    let m : extent_of op t n ≡ n = h.0 in
    let again : Cut plain (drop (j + n) s) p = rw m at (plain_cut op a h.1) in
    let x : capsule_at (extent_of op) s t n j ≡ capsule_at plain s t n j = ap (λ (k : ℕ). record { ctype = t; size = n; value = take k (drop j s); bytes = take (j + k) s }) m in
    subst (λ (c : Capsule). Cut plain s (ahead (c ∷ []) p)) (sym x) (next (plain-whole op s t n j m v) again)

pub read_plain : (op : Opening) (s : List ℕ) → AllShort op (parts_for op s).capsules → parts_for op s ≡ parts s
unfolding parts_for
read_plain op s h = sym (parts_is (plain_cut op (parts_cut (extent_of op) s) h))
