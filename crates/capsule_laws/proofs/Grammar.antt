-- The grammar: its graph, and what more bytes do to it. Assumes nothing.
use Rattle.std.specs.Prelude.{Option, Some, None}
use Rattle.short_forms.specs.Short.{varint_of}
use Rattle.walks.proofs.Words.{◌≡◌, refl, sym, ◌∙◌, ℕ, zero, suc, ◌+◌, ◌≤◌, ◌<◌, arith, le_refl, not-suc-le-zero, List, [], ◌∷◌, ◌++◌, append_assoc, length, take, drop, length-append, length-drop, take-append-drop, take-append-le, drop-append-le, take_all, take-length, drop-length, take-take, take-nil, length-take-le, le-leb, lt-leb}
use Rattle.capsule_laws.proofs.Terms.{Varint, Bytes, read_varint, bytes_drop, split, reads, read_nil, incomplete_lt, Extent, Stage, in_type, in_length, in_value, Front, part, whole, front_by, capsule_at, Parts, ahead, cut_by, parts_by, joined, ReadsAs, AllRead, SplitRight, HeldAtMostSeven}

-- ---- the graph of `front`: what stands there, and what it rests on

pub data Sees (ext : Extent) (s : List ℕ) : Front → Type 0 where
  sees_type : read_varint s ≡ None → Sees ext s (part in_type)
  sees_length : {t j : ℕ} → read_varint s ≡ Some (varint_of t j) → read_varint (drop j s) ≡ None → Sees ext s (part (in_length t j))
  sees_value : {t j n k : ℕ} → read_varint s ≡ Some (varint_of t j) → read_varint (drop j s) ≡ Some (varint_of n k) → length s < j + k + ext t n → Sees ext s (part (in_value t n (j + k)))
  sees_whole : {t j n k : ℕ} → read_varint s ≡ Some (varint_of t j) → read_varint (drop j s) ≡ Some (varint_of n k) → j + k + ext t n ≤ length s → Sees ext s (whole t n (j + k))

pub front_is : {ext : Extent} {s : List ℕ} {x : Front} → Sees ext s x → front_by ext s ≡ x
unfolding front_by
front_is (sees_type e) = rw (e, front_by)
front_is (sees_length e d) = rw (e, front_by, d, front_by)
front_is {ext} {s} (sees_value {t = t} {j = j} {n = n} {k = k} e d h) = rw (e, front_by, d, lt-leb (j + k + ext t n) (length s) h)
front_is {ext} {s} (sees_whole {t = t} {j = j} {n = n} {k = k} e d h) = rw (e, front_by, d, le-leb (j + k + ext t n) (length s) h)

pub sees : (ext : Extent) (s : List ℕ) → Sees ext s (front_by ext s)
sees ext s = first (read_varint s) refl
  where
    is : {x : Front} → Sees ext s x → Sees ext s (front_by ext s)
    is v = rw (front_is v) v

    second : (t j : ℕ) → read_varint s ≡ Some (varint_of t j) → (r : Option Varint) → read_varint (drop j s) ≡ r → Sees ext s (front_by ext s)
    second t j e None d = is (sees_length e d)
    second t j e (Some read) d = split (j + read.size + ext t read.value) (length s) (λ h. is (sees_whole e d h)) (λ h. is (sees_value e d h))

    first : (r : Option Varint) → read_varint s ≡ r → Sees ext s (front_by ext s)
    first None e = is (sees_type e)
    first (Some read) e = second read.value read.size e (read_varint (drop read.size s)) refl

-- a head that is there stays, whatever follows
module _ (s : List ℕ) {t j n k : ℕ} (e : read_varint s ≡ Some (varint_of t j)) (d : read_varint (drop j s) ≡ Some (varint_of n k)) where
  pub head_stays : (r : List ℕ) → (read_varint (s ++ r) ≡ Some (varint_of t j)) × (read_varint (drop j (s ++ r)) ≡ Some (varint_of n k))
  head_stays r =
      let a = reads s t j e in
      (a.stays r, rw (drop-append-le j s r a.fits) ((reads (drop j s) n k d).stays r))

  pub head_fits : (0 < j) × (0 < k) × (j + k ≤ length s)
  head_fits = omega (arith, reads s t j e, reads (drop j s) n k d, length-drop j s)

-- what a whole capsule at the front says of the list
pub record Complete (ext : Extent) (s : List ℕ) (t n j : ℕ) : Type 0 where
  pub some : 0 < j
  pub fits : j + ext t n ≤ length s
  pub stays : (r : List ℕ) → Sees ext (s ++ r) (whole t n j)
  pub same : (r : List ℕ) → capsule_at ext (s ++ r) t n j ≡ capsule_at ext s t n j

pub complete : {ext : Extent} {s : List ℕ} {t n j : ℕ} → Sees ext s (whole t n j) → Complete ext s t n j
unfolding capsule_at
complete {ext} {s} (sees_whole {t = t} {j = j} {n = n} {k = k} e d h) =
    let f = head_fits s e d in
    let m = ext t n in
    record {
      some = omega arith;
      fits = h;
      stays = λ r. let b = head_stays s e d r in sees_whole b.0 b.1 (omega (arith, length-append s r));
      same = λ r. rw (take-append-le (j + k + m) s r h, drop-append-le (j + k) s r f.2, take-append-le m (drop (j + k) s) r (omega (arith, length-drop (j + k) s)));
    }

-- ---- the graph of the cut: no fuel

pub data Cut (ext : Extent) : List ℕ → Parts → Type 0 where
  end : {s : List ℕ} {x : Stage} → Sees ext s (part x) → Cut ext s (record { capsules = []; tail = s; stage = x })
  next : {s : List ℕ} {p : Parts} {t n j : ℕ} → Sees ext s (whole t n j) → Cut ext (drop (j + ext t n) s) p → Cut ext s (ahead (capsule_at ext s t n j ∷ []) p)

-- what is left behind a whole capsule is shorter
shorter : {ext : Extent} {s : List ℕ} {t n j : ℕ} (f : ℕ) → Sees ext s (whole t n j) → length s < suc f → length (drop (j + ext t n) s) < f
shorter {ext} {s} {t} {n} {j} f v h = omega (arith, complete v, length-drop (j + ext t n) s)

cut_is : {ext : Extent} (f : ℕ) {s : List ℕ} {p : Parts} → length s < f → Cut ext s p → cut_by ext f s ≡ p
unfolding cut_by
cut_is zero h c = absurd (not-suc-le-zero h)
cut_is (suc f) h (end v) = rw (front_is v, cut_by)
cut_is (suc f) h (next v c) = rw (front_is v, cut_by, cut_is f (shorter f v h) c)

cut_of : (ext : Extent) (f : ℕ) (s : List ℕ) → length s < f → Cut ext s (cut_by ext f s)
unfolding cut_by
cut_of ext zero s h = absurd (not-suc-le-zero h)
cut_of ext (suc f) s h = go (λ r l. cut_of ext f r l) (front_by ext s) (sees ext s)
  where
    go : ((r : List ℕ) → length r < f → Cut ext r (cut_by ext f r)) → (x : Front) → Sees ext s x → Cut ext s (cut_by ext (suc f) s)
    go again (part x) v = rw (front_is v, cut_by) (end v)
    go again (whole t n j) v = rw (front_is v, cut_by) (next v (again (drop (j + ext t n) s) (shorter f v h)))

pub parts_is : {ext : Extent} {s : List ℕ} {p : Parts} → Cut ext s p → parts_by ext s ≡ p
unfolding parts_by
parts_is {s = s} c = cut_is (suc (length s)) (le_refl (suc (length s))) c

pub parts_cut : (ext : Extent) (s : List ℕ) → Cut ext s (parts_by ext s)
unfolding parts_by
parts_cut ext s = cut_of ext (suc (length s)) s (le_refl (suc (length s)))

-- ---- more bytes

cut_append : {ext : Extent} {s : List ℕ} {p q : Parts} (x : List ℕ) → Cut ext s p → Cut ext (p.tail ++ x) q → Cut ext (s ++ x) (ahead p.capsules q)
cut_append x (end v) c = c
cut_append {ext} {q = q} x (next {s = s} {p = p} {t = t} {n = n} {j = j} v a) c =
    let w = complete v in
    let b : Cut ext (drop (j + ext t n) (s ++ x)) (ahead p.capsules q) = rw (drop-append-le (j + ext t n) s x w.fits) (cut_append x a c) in
    rw (← (w.same x)) (next (w.stays x) b)

-- the law that carries a reader: only the tail matters for what more bytes do
pub parts-append : (ext : Extent) (s x : List ℕ) → parts_by ext (s ++ x) ≡ ahead (parts_by ext s).capsules (parts_by ext ((parts_by ext s).tail ++ x))
parts-append ext s x = parts_is (cut_append x (parts_cut ext s) (parts_cut ext ((parts_by ext s).tail ++ x)))

cut_tail : {ext : Extent} {s : List ℕ} {p : Parts} → Cut ext s p → Sees ext p.tail (part p.stage)
cut_tail (end v) = v
cut_tail (next v c) = cut_tail c

pub tail_sees : (ext : Extent) (s : List ℕ) → Sees ext (parts_by ext s).tail (part (parts_by ext s).stage)
tail_sees ext s = cut_tail (parts_cut ext s)

cut_bytes : {ext : Extent} {s : List ℕ} {p : Parts} → Cut ext s p → Bytes s → Bytes p.tail
cut_bytes (end v) h = h
cut_bytes {ext} (next {s = s} {t = t} {n = n} {j = j} v c) h = cut_bytes c (bytes_drop (j + ext t n) s h)

pub tail-bytes : (ext : Extent) (s : List ℕ) → Bytes s → Bytes (parts_by ext s).tail
tail-bytes ext s h = cut_bytes (parts_cut ext s) h

-- a list that is a part of a capsule
pub parts_part : {ext : Extent} (s : List ℕ) (x : Stage) → Sees ext s (part x) → parts_by ext s ≡ record { capsules = []; tail = s; stage = x }
parts_part s x v = parts_is (end v)

pub parts_nil : (ext : Extent) → parts_by ext [] ≡ record { capsules = []; tail = []; stage = in_type }
parts_nil ext = parts_part [] in_type (sees_type read_nil)

-- a list that is just one capsule
pub parts-one : {ext : Extent} (s : List ℕ) (t n j : ℕ) → Sees ext s (whole t n j) → j + ext t n ≡ length s
    → parts_by ext s ≡ record { capsules = record { ctype = t; size = n; value = drop j s; bytes = s } ∷ []; tail = []; stage = in_type }
unfolding capsule_at
parts-one {ext} s t n j v h =
    let c : Cut ext (drop (j + ext t n) s) (record { capsules = []; tail = []; stage = in_type }) = rw (h, drop-length) (end (sees_type read_nil)) in
    rw (parts_is (next v c), take_all (ext t n) (drop j s) (omega (arith, length-drop j s)), h, take-length)

-- ---- a complete capsule is complete by its own bytes alone

pub drop-take : (j m : ℕ) (s : List ℕ) → drop j (take (j + m) s) ≡ take m (drop j s)
drop-take zero m s = let e : 0 + m ≡ m = omega arith in rw e
drop-take (suc j) m [] = rw (take-nil (suc j + m), take-nil m)
drop-take (suc j) m (b ∷ s) = let e : suc j + m ≡ suc (j + m) = omega arith in rw e (drop-take j m s)

pub whole-alone : {ext : Extent} (s : List ℕ) (t n j : ℕ) → Sees ext s (whole t n j) → Sees ext (take (j + ext t n) s) (whole t n j)
whole-alone {ext} s t n i (sees_whole {j = j} {k = k} e d h) =
    let a = reads s t j e in
    let b = reads (drop j s) n k d in
    let x = ext t n in
    let m : k + x ≤ length (drop j s) = omega (arith, length-drop j s) in
    let c : j + k + x ≡ j + (k + x) = omega arith in
    let type : read_varint (take (j + k + x) s) ≡ Some (varint_of t j) = longer s t j (j + k + x) e (omega arith) in
    let length : read_varint (drop j (take (j + k + x) s)) ≡ Some (varint_of n k) = rw (c, drop-take j (k + x) s) (longer (drop j s) n k (k + x) d (omega arith)) in
    sees_whole type length (omega (arith, length-take-le (j + k + x) s h))
  where
    -- a varint is read from any front that has all of it
    longer : (l : List ℕ) (v k m : ℕ) → read_varint l ≡ Some (varint_of v k) → k ≤ m → read_varint (take m l) ≡ Some (varint_of v k)
    longer l v k m e h =
        let f = reads l v k e in
        rw (← (take-append-drop k (take m l)), take-take k m l h) ((reads (take k l) v k f.alone).stays (drop k (take m l)))

-- so a part of a capsule has none in it, however it goes on
pub part_none : {ext : Extent} (s : List ℕ) (x : Stage) (y : List ℕ) (t n j : ℕ) → Sees ext s (part x) → Sees ext (s ++ y) (whole t n j) → length s < j + ext t n
part_none {ext} s x y t n j v w = split (j + ext t n) (length s)
    (λ h.
    let c : Sees ext (take (j + ext t n) (s ++ y)) (whole t n j) = whole-alone (s ++ y) t n j w in
    let e : take (j + ext t n) (s ++ y) ≡ take (j + ext t n) s = take-append-le (j + ext t n) s y h in
    let d : Sees ext (take (j + ext t n) s) (whole t n j) = rw e at c in
    let f : Sees ext s (whole t n j) = rw take-append-drop at ((complete d).stays (drop (j + ext t n) s)) in
    different (sym (front_is v) ∙ front_is f))
    (λ h. h)
  where
    different : part x ≡ whole t n j → length s < j + ext t n
    different e = let z : ◌≡◌ {A = ℕ} 0 1 = cc in absurd (let n : ⊥ = omega arith in n)

-- ---- the claims

cut_joined : {ext : Extent} {s : List ℕ} {p : Parts} → Cut ext s p → joined p.capsules ++ p.tail ≡ s
unfolding joined capsule_at
cut_joined (end v) = refl
cut_joined (next {s = s} {p = p} {n = n} {j = j} v c) = rw (append_assoc, cut_joined c, take-append-drop)

reads_as : {ext : Extent} (s : List ℕ) (t n j : ℕ) → Sees ext s (whole t n j) → ReadsAs ext (capsule_at ext s t n j)
unfolding capsule_at
reads_as {ext} s t n j v =
    let c = complete v in
    let l : length (take (ext t n) (drop j s)) ≡ ext t n = length-take-le (ext t n) (drop j s) (omega (arith, c.fits, length-drop j s)) in
    (j, front_is (whole-alone s t n j v), sym (drop-take j (ext t n) s), l)

cut_read : {ext : Extent} {s : List ℕ} {p : Parts} → Cut ext s p → AllRead ext p.capsules
cut_read (end v) = tt
cut_read (next {s = s} {t = t} {n = n} {j = j} v c) = (reads_as s t n j v, cut_read c)

pub split_right : SplitRight
split_right ext s = record {
  nothing_lost = cut_joined (parts_cut ext s);
  tail_unfinished = front_is (tail_sees ext s);
  capsules_read = cut_read (parts_cut ext s);
}

sees_type_lem : {ext : Extent} (r : List ℕ) (x : Stage) → Sees ext r (part x) → x ≡ in_type → read_varint r ≡ None
sees_type_lem r x (sees_type e) i = e
sees_type_lem r x (sees_length e d) i = let z : ◌≡◌ {A = ℕ} 0 1 = cc in absurd (let n : ⊥ = omega arith in n)
sees_type_lem r x (sees_value e d h) i = let z : ◌≡◌ {A = ℕ} 0 1 = cc in absurd (let n : ⊥ = omega arith in n)

pub held_at_most_seven : HeldAtMostSeven
held_at_most_seven ext s h e =
    omega (arith, incomplete_lt (parts_by ext s).tail (tail-bytes ext s h) (sees_type_lem (parts_by ext s).tail (parts_by ext s).stage (tail_sees ext s) e))
