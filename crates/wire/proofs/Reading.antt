-- Reading a varint. Assumes nothing.
use Rattle.std.specs.Prelude.{Option, Some, None}
use Rattle.short_forms.specs.Short.{varint_of}
use Rattle.walks.proofs.Words.{◌≡◌, refl, sym, ap, ◌∙◌, ℕ, zero, suc, ◌+◌, ◌-◌, ◌*◌, ◌/◌, ◌%◌, ◌^◌, ◌≤◌, ◌<◌, lt_of_not-le, mod-lt, mod-eq_of_lt, dec_le, arith, List, [], ◌∷◌, ◌++◌, length, get_or, take, length-append, take-append-le, take-take, length-take-le, pow_pos, pow_mono, pow-lt, le-leb, lt-leb}
use Rattle.wire.proofs.Terms.{Varint, Bytes, num, bytes_of, largest, size_of, value_of, read_varint, IncompleteExactly, FirstBytesOnly, NeverAboveLargest}
use Rattle.wire.proofs.Numbers.{bytes_each, bytes_of-first, num-bytes_of, number-one}

-- one order or the other
pub split {ℓ} : {X : Type ℓ} (a b : ℕ) → (a ≤ b → X) → (b < a → X) → X
split a b f g = elim (dec_le a b) [ yes h ↦ f h | no h ↦ g (lt_of_not-le h) ]

pub whole_incomplete {ℓ} : {X : Type ℓ} {r : (Option Varint)} {v k : ℕ} → r ≡ Some (varint_of v k) → r ≡ None → X
whole_incomplete p q = let z : ◌≡◌ {A = ℕ} 0 1 = cc in absurd (let n : ⊥ = omega arith in n)

-- two that were read are one
pub whole_same : {v k v' k' : ℕ} → Some (varint_of v k) ≡ Some (varint_of v' k') → (v ≡ v') × (k ≡ k')
whole_same {v} {k} {v'} {k'} e =
    let r : varint_of v k ≡ varint_of v' k' = cc in
    (ap (λ (w : Varint). w.value) r, ap (λ (w : Varint). w.size) r)

-- ---- sizes and values

pub size_of_pos : (b : ℕ) → 0 < size_of b
unfolding size_of
size_of_pos b = pow_pos (b / 64)

pub size_of_le : (b : ℕ) → b < 256 → size_of b ≤ 8
unfolding size_of
size_of_le b h = let q : b / 64 ≤ 3 = omega arith in pow_mono q

pub size_of-at : (b q : ℕ) → b / 64 ≡ q → 2 ^ q ≡ size_of b
unfolding size_of
size_of-at b q e = rw e

pub value_of_le : (k n : ℕ) → k ≤ 8 → value_of k n ≤ largest
unfolding value_of largest
value_of_le k n h =
    let e : 8 * k - 2 ≤ 62 = omega arith in
    let p : 2 ^ (8 * k - 2) ≤ 2 ^ 62 = pow_mono e in
    omega (arith, p, mod-lt n (pow_pos (8 * k - 2)))

-- as the code takes the top two bits off
pub value_of_shift : (k n : ℕ) → k ≤ 8 → n % ((1 * 2 ^ (8 * k - 2)) % 2 ^ 64) ≡ value_of k n
unfolding value_of
value_of_shift k n h =
    let l : 8 * k - 2 < 64 = omega arith in
    let e : 1 * 2 ^ (8 * k - 2) ≡ 2 ^ (8 * k - 2) = omega arith in
    rw (e, mod-eq_of_lt (pow-lt l))

pub shifted_pos : (k : ℕ) → k ≤ 8 → 0 < (1 * 2 ^ (8 * k - 2)) % 2 ^ 64
shifted_pos k h =
    let l : 8 * k - 2 < 64 = omega arith in
    let e : 1 * 2 ^ (8 * k - 2) ≡ 2 ^ (8 * k - 2) = omega arith in
    rw (e, mod-eq_of_lt (pow-lt l)) (pow_pos (8 * k - 2))

-- ---- what is read, by the first byte's size

pub read_nil : read_varint [] ≡ None
unfolding read_varint
read_nil = refl

pub read_whole : (b : ℕ) (s : List ℕ) → size_of b ≤ length (b ∷ s)
    → read_varint (b ∷ s) ≡ Some (varint_of (value_of (size_of b) (num (take (size_of b) (b ∷ s)))) (size_of b))
unfolding read_varint
read_whole b s h = rw (le-leb (size_of b) (length (b ∷ s)) h)

pub read-less : (b : ℕ) (s : List ℕ) → length (b ∷ s) < size_of b → read_varint (b ∷ s) ≡ None
unfolding read_varint
read-less b s h = rw (lt-leb (size_of b) (length (b ∷ s)) h)

pub less-read : (b : ℕ) (s : List ℕ) → read_varint (b ∷ s) ≡ None → length (b ∷ s) < size_of b
less-read b s e = split (size_of b) (length (b ∷ s)) (λ h. whole_incomplete (read_whole b s h) e) (λ h. h)

-- what a varint that is read says of the list
pub record Reads (s : List ℕ) (v k : ℕ) : Type 0 where
  pub some : 0 < k
  pub fits : k ≤ length s
  -- bytes after the varint do not matter
  pub stays : (r : List ℕ) → read_varint (s ++ r) ≡ Some (varint_of v k)
  -- and neither do those that the list has
  pub alone : read_varint (take k s) ≡ Some (varint_of v k)

pub reads : (s : List ℕ) (v k : ℕ) → read_varint s ≡ Some (varint_of v k) → Reads s v k
reads [] v k e = whole_incomplete e read_nil
reads (b ∷ s) v k e = split (size_of b) (length (b ∷ s)) long (λ h. whole_incomplete e (read-less b s h))
  where
    long : size_of b ≤ length (b ∷ s) → Reads (b ∷ s) v k
    long h =
        let is_k : size_of b ≡ k = (whole_same (sym (read_whole b s h) ∙ e)).1 in
        let p = size_of_pos b in
        record {
          some = omega arith;
          fits = omega arith;
          stays = λ r. rw (read_whole b (s ++ r) (omega (arith, length-append s r)), take-append-le (size_of b) (b ∷ s) r h, ← (read_whole b s h)) e;
          alone = rw (← is_k) (short (size_of b) refl h p);
        }
      where
        short : (n : ℕ) → size_of b ≡ n → n ≤ length (b ∷ s) → 0 < n → read_varint (take n (b ∷ s)) ≡ Some (varint_of v n)
        short zero d l p = absurd (let z : ⊥ = omega arith in z)
        short (suc n) d l p =
            let m : n ≤ length s = omega arith in
            let g : size_of b ≤ length (b ∷ take n s) = omega (arith, length-take-le n s m) in
            let t : take (size_of b) (b ∷ take n s) ≡ take (size_of b) (b ∷ s) = rw d (ap (λ (l : List ℕ). b ∷ l) (take-take n n s (omega arith))) in
            read_whole b (take n s) g ∙ rw t (rw (← d, (whole_same (sym (read_whole b s h) ∙ e)).0))

pub no_whole_nil {ℓ} : {X : Type ℓ} {v k : ℕ} → read_varint [] ≡ Some (varint_of v k) → X
no_whole_nil e = whole_incomplete e read_nil

-- ---- of bytes

pub read_bounds : (s : List ℕ) (v k : ℕ) → Bytes s → read_varint s ≡ Some (varint_of v k) → (v ≤ largest) × (k ≤ 8)
read_bounds [] v k h e = no_whole_nil e
read_bounds (b ∷ s) v k h e = split (size_of b) (length (b ∷ s)) (λ l.
    let same = whole_same (sym e ∙ read_whole b s l) in
    let m = size_of_le b h.0 in
    (rw same.0 (value_of_le (size_of b) (num (take (size_of b) (b ∷ s))) m), rw same.1 m))
    (λ l. whole_incomplete e (read-less b s l))

pub incomplete_lt : (s : List ℕ) → Bytes s → read_varint s ≡ None → length s < 8
incomplete_lt [] h e = omega arith
incomplete_lt (b ∷ s) h e = omega (arith, less-read b s e, size_of_le b h.0)

pub incomplete_room : (s : List ℕ) → ((i : ℕ) → get_or s i 0 < 256) → read_varint s ≡ None → 0 + length s ≤ 8
incomplete_room s h e = omega (arith, incomplete_lt s (bytes_each s h) e)

-- ---- as the code reads: the first byte's size is q, and the slice has so many bytes or not

module _ (s : List ℕ) (q : ℕ) (n : 0 < length s) (e : get_or s 0 0 / 64 ≡ q) where
  pub front_whole : 2 ^ q ≤ length s → read_varint s ≡ Some (varint_of (num (take (2 ^ q) s) % 2 ^ (8 * 2 ^ q - 2)) (2 ^ q))
  unfolding value_of
  front_whole h = go s n e h
    where
      go : (l : List ℕ) → 0 < length l → get_or l 0 0 / 64 ≡ q → 2 ^ q ≤ length l → read_varint l ≡ Some (varint_of (num (take (2 ^ q) l) % 2 ^ (8 * 2 ^ q - 2)) (2 ^ q))
      go [] n e h = absurd (let z : ⊥ = omega arith in z)
      go (b ∷ l) n e h = rw (size_of-at b q e) (read_whole b l (rw (← (size_of-at b q e)) h))

  pub front_less : length s < 2 ^ q → read_varint s ≡ None
  front_less h = go s n e h
    where
      go : (l : List ℕ) → 0 < length l → get_or l 0 0 / 64 ≡ q → length l < 2 ^ q → read_varint l ≡ None
      go [] n e h = absurd (let z : ⊥ = omega arith in z)
      go (b ∷ l) n e h = read-less b l (rw (← (size_of-at b q e)) h)

pub front_none : (s : List ℕ) → length s ≡ 0 → read_varint s ≡ None
front_none [] e = read_nil
front_none (b ∷ s) e = absurd (let z : ⊥ = omega arith in z)

pub front_one : (s : List ℕ) → 0 < length s → get_or s 0 0 < 64 → read_varint s ≡ Some (varint_of (get_or s 0 0) 1)
front_one s n h =
    let v : num (take 1 s) % 64 ≡ get_or s 0 0 = omega (arith, number-one s n) in
    front_whole s 0 n (omega arith) n ∙ rw v

-- the number of the first eight bytes tells the first byte, and the varint
pub read_eight : (s : List ℕ) (w : ℕ) → Bytes s → 8 ≤ length s → w < 2 ^ 64 → bytes_of 8 w ≡ take 8 s
    → (get_or s 0 0 ≡ w / 2 ^ 56) × (read_varint (bytes_of 8 w) ≡ read_varint s)
read_eight [] w h l f e = absurd (let z : ⊥ = omega arith in z)
read_eight (b ∷ s) w h l f e =
    let t : length (take 7 s) ≡ 7 = length-take-le 7 s (omega arith) in
    let k = size_of_le b h.0 in
    let same : take (size_of b) (b ∷ take 7 s) ≡ take (size_of b) (b ∷ s) = take-take (size_of b) 8 (b ∷ s) k in
    let is_b : w / 256 ^ 7 ≡ b = cc (bytes_of-first 7 w f, e) in (
      sym is_b,
      rw (e, read_whole b (take 7 s) (omega arith), read_whole b s (omega arith), same),
    )

-- and that of the first four, where the first byte says four
pub read_four : (s : List ℕ) (n : ℕ) → 4 ≤ length s → get_or s 0 0 / 64 ≡ 2 → n < 2 ^ 32 → bytes_of 4 n ≡ take 4 s
    → read_varint s ≡ Some (varint_of (n % 1073741824) 4)
read_four s n l q f e =
    let is_n : num (take 4 s) ≡ n = rw e at (num-bytes_of 4 n f) in
    front_whole s 2 (omega arith) q l ∙ rw is_n

-- ---- the claims

pub incomplete_exactly : IncompleteExactly
incomplete_exactly = (read_nil, λ b s. (less-read b s, read-less b s))

pub first-bytes_only : FirstBytesOnly
first-bytes_only s rest v k e = (reads (take k s) v k (reads s v k e).alone).stays rest

pub never_above_largest : NeverAboveLargest
never_above_largest s v k h e = let b = read_bounds s v k h e in (b.0, b.1, (reads s v k e).fits)
