-- Bytes and big-endian numbers. Assumes nothing.
use Rattle.walks.proofs.Words.{◌≡◌, refl, sym, ap, ◌∙◌, ℕ, zero, suc, ◌+◌, ◌*◌, ◌/◌, ◌%◌, ◌^◌, ◌≤◌, ◌<◌, add-zero, div-div-eq-div-mul, pow-suc, pow-succ', div-one, mod-eq_of_lt, div-lt_iff_lt-mul, one-le-pow, add-one, arith, List, [], ◌∷◌, ◌++◌, append_assoc, length, get_or, take, drop, set, take-suc, length-take-le, sets, digits_div, digits_mod, mod-mul, pow-add, pow_mono, lit<}
use Rattle.std.specs.Array.{IsFirstChunk}
use Rattle.std.specs.Int.{w32, w64, bytes_high_first, from_be_bytes}
use Rattle.std.proofs.lemmas.{Nat.be_bytes_4, Nat.be_bytes_8, Slice.put_mid-paste, List.Edits.paste_all, List.Edits.sets-eq}
use borrow.Rule.Slice.PartMut.{put_mid}
use Rattle.wire.proofs.Terms.{Bytes, num_from, num, bytes_of}

-- ---- bytes

pub bytes-append : (s t : List ℕ) → Bytes s → Bytes t → Bytes (s ++ t)
bytes-append [] t h k = k
bytes-append (b ∷ s) t h k = (h.0, bytes-append s t h.1 k)

pub bytes_drop : (n : ℕ) (s : List ℕ) → Bytes s → Bytes (drop n s)
bytes_drop zero s h = h
bytes_drop (suc n) [] h = h
bytes_drop (suc n) (b ∷ s) h = bytes_drop n s h.1

pub bytes_take : (n : ℕ) (s : List ℕ) → Bytes s → Bytes (take n s)
bytes_take zero s h = tt
bytes_take (suc n) [] h = tt
bytes_take (suc n) (b ∷ s) h = (h.0, bytes_take n s h.1)

-- of a slice of bytes, whose elements are known one by one
pub bytes_each : (s : List ℕ) → ((i : ℕ) → get_or s i 0 < 256) → Bytes s
bytes_each [] h = tt
bytes_each (b ∷ s) h = (h 0, bytes_each s (λ i. h (suc i)))

pub pow_256 : (k : ℕ) → 2 ^ (8 * k) ≡ 256 ^ k
pow_256 zero = refl
pow_256 (suc k) =
    let e : 8 * suc k ≡ 8 * k + 8 = omega arith in
    rw (e, pow-add 2 (8 * k) 8, pow_256 k, pow-suc 256 k)

pub pow_256_pos : (k : ℕ) → 0 < 256 ^ k
pow_256_pos k = one-le-pow k 256 (lit< tt)

-- ---- the number of some bytes

pub num_from-append : (n : ℕ) (s t : List ℕ) → num_from n (s ++ t) ≡ num_from (num_from n s) t
unfolding num_from
num_from-append n [] t = refl
num_from-append n (b ∷ s) t = num_from-append (n * 256 + b) s t

pub num_from_shift : (n : ℕ) (s : List ℕ) → num_from n s ≡ n * 256 ^ length s + num s
unfolding num_from num
num_from_shift n [] = omega arith
num_from_shift n (b ∷ s) =
    rw (num_from_shift (n * 256 + b) s, num_from_shift (0 * 256 + b) s, pow-succ' 256 (length s)) (omega arith)

pub num_from_div : (n : ℕ) (s : List ℕ) → Bytes s → num_from n s / 256 ^ length s ≡ n
unfolding num_from
num_from_div n [] h = div-one n
num_from_div n (b ∷ s) h =
    rw (pow-suc, ← div-div-eq-div-mul, num_from_div (n * 256 + b) s h.1) (digits_div n h.0)

pub num_lt : (s : List ℕ) → Bytes s → num s < 256 ^ length s
unfolding num
num_lt s h =
    let l : num_from 0 s / 256 ^ length s < 1 = omega (arith, num_from_div 0 s h) in
    omega (arith, (div-lt_iff_lt-mul (pow_256_pos (length s))).0 l)

pub num-first : (b : ℕ) (s : List ℕ) → Bytes s → num (b ∷ s) / 256 ^ length s ≡ b
unfolding num num_from
num-first b s w = num_from_div (0 * 256 + b) s w ∙ omega arith

-- ---- the bytes of a number

pub length-bytes_of : (k n : ℕ) → length (bytes_of k n) ≡ k
unfolding bytes_of
length-bytes_of zero n = refl
length-bytes_of (suc k) n = ap suc (length-bytes_of k n)

pub bytes_of-bytes : (k n : ℕ) → Bytes (bytes_of k n)
unfolding bytes_of
bytes_of-bytes zero n = tt
bytes_of-bytes (suc k) n = (omega arith, bytes_of-bytes k n)

bytes_of-num_from : (n : ℕ) (s : List ℕ) → Bytes s → bytes_of (length s) (num_from n s) ≡ s
unfolding num_from bytes_of
bytes_of-num_from n [] h = refl
bytes_of-num_from n (b ∷ s) h =
    rw (num_from_div (n * 256 + b) s h.1, digits_mod n h.0, bytes_of-num_from (n * 256 + b) s h.1)

pub bytes_of-num : (s : List ℕ) → Bytes s → bytes_of (length s) (num s) ≡ s
unfolding num
bytes_of-num s h = bytes_of-num_from 0 s h

num_from-bytes_of : (m k n : ℕ) → num_from m (bytes_of k n) ≡ m * 256 ^ k + n % 256 ^ k
unfolding num_from bytes_of
num_from-bytes_of m zero n = omega arith
num_from-bytes_of m (suc k) n =
    rw (num_from-bytes_of (m * 256 + n / 256 ^ k % 256) k n, pow-succ' 256 k, mod-mul n {m = 256} {c = 256 ^ k} (lit< tt) (pow_256_pos k))
    (omega arith)

num-bytes_of_mod : (k n : ℕ) → num (bytes_of k n) ≡ n % 256 ^ k
unfolding num
num-bytes_of_mod k n = rw (num_from-bytes_of 0 k n) (omega arith)

pub num-bytes_of : (k n : ℕ) → n < 256 ^ k → num (bytes_of k n) ≡ n
num-bytes_of k n h = num-bytes_of_mod k n ∙ mod-eq_of_lt h

-- only the last k bytes of a number count
bytes_of_mod : (k n : ℕ) → bytes_of k (n % 256 ^ k) ≡ bytes_of k n
bytes_of_mod k n = rw (num-bytes_of_mod, length-bytes_of) at (bytes_of-num (bytes_of k n) (bytes_of-bytes k n))

bytes_of_join : (a b n : ℕ) → bytes_of (a + b) n ≡ bytes_of a (n / 256 ^ b) ++ bytes_of b n
unfolding bytes_of
bytes_of_join zero b n = let e : 0 + b ≡ b = omega arith in rw e
bytes_of_join (suc a) b n =
    let e : suc a + b ≡ suc (a + b) = omega arith in
    let c : b + a ≡ a + b = omega arith in
    rw (e, div-div-eq-div-mul, ← (pow-add 256 b a), c, bytes_of_join a b n)

-- a number's bytes, by its two halves
pub bytes_of_halves : (a b n : ℕ) → bytes_of (a + b) n ≡ bytes_of a (n / 256 ^ b) ++ bytes_of b (n % 256 ^ b)
bytes_of_halves a b n = rw (bytes_of_mod b n) (bytes_of_join a b n)

-- the first byte of a number that fits
pub bytes_of-first : (k n : ℕ) → n < 256 ^ suc k → bytes_of (suc k) n ≡ n / 256 ^ k ∷ bytes_of k n
unfolding bytes_of
bytes_of-first k n h =
    ap (λ (d : ℕ). d ∷ bytes_of k n) (mod-eq_of_lt ((div-lt_iff_lt-mul (pow_256_pos k)).1 (rw (← (pow-succ' 256 k)) h)))

-- ---- what the code's loops and sums need

pub number_nil : (n : ℕ) (s : List ℕ) → n ≡ num_from n (take 0 s)
unfolding num_from
number_nil n s = refl

pub number_turn : (s : List ℕ) (raw n i : ℕ) → n ≡ num_from raw (take i s) → i < length s
    → n * 256 + get_or s i 0 ≡ num_from raw (take (i + 1) s)
unfolding num_from
number_turn s raw n i e h =
    rw (add-one i, take-suc s i 0 h, num_from-append raw (take i s) (get_or s i 0 ∷ []), ← e)

pub number_bound : (k n b : ℕ) → n < 256 ^ k → b < 256 → n * 256 + b < 256 ^ (k + 1)
number_bound k n b h l = rw (add-one k, pow-succ' 256 k) (omega arith)

pub number-room : (k n : ℕ) → n < 256 ^ k → k ≤ 7 → n < 2 ^ 56
number-room k n h l =
    let e : 256 ^ k ≤ 2 ^ 56 = let m : 8 * k ≤ 56 = omega arith in rw (← (pow_256 k)) (pow_mono m) in
    omega arith

pub number-one : (s : List ℕ) → 0 < length s → get_or s 0 0 ≡ num (take 1 s)
unfolding num num_from
number-one [] h = absurd (let z : ⊥ = omega arith in z)
number-one (b ∷ s) h = omega arith

-- the library's big-endian numbers
be_bytes_of : (k n : ℕ) → bytes_high_first k n ≡ bytes_of k n
unfolding bytes_of
be_bytes_of zero n = refl
be_bytes_of (suc zero) n = let e : n % 256 ≡ n / 256 ^ 0 % 256 = omega arith in ap (λ (b : ℕ). b ∷ []) e
be_bytes_of (suc (suc k)) n = ap (λ (s : List ℕ). n / 256 ^ suc k % 256 ∷ s) (be_bytes_of (suc k) n)

each_byte : (s : List ℕ) → Bytes s → (i : ℕ) → get_or s i 0 < 256
each_byte [] h i = omega arith
each_byte (b ∷ s) h zero = h.0
each_byte (b ∷ s) h (suc i) = each_byte s h.1 i

pub be_four : (s b : List ℕ) (n : ℕ) → Bytes s → IsFirstChunk s b 4 → n ≡ from_be_bytes w32 b → bytes_of 4 n ≡ take 4 s
be_four s b n h f e =
    sym (be_bytes_of 4 n) ∙ be_bytes_4 (take 4 s) n (length-take-le 4 s f.enough) (each_byte (take 4 s) (bytes_take 4 s h)) (rw f.same at e)

pub be_eight : (s b : List ℕ) (n : ℕ) → Bytes s → IsFirstChunk s b 8 → n ≡ from_be_bytes w64 b → bytes_of 8 n ≡ take 8 s
be_eight s b n h f e =
    sym (be_bytes_of 8 n) ∙ be_bytes_8 (take 8 s) n (length-take-le 8 s f.enough) (each_byte (take 8 s) (bytes_take 8 s h)) (rw f.same at e)

-- k bytes of a number, put in place
pub put_bytes : (o : List ℕ) (at k m n : ℕ) (w : List ℕ) → w ≡ bytes_high_first k n → m ≡ k → at + k ≤ length o
    → put_mid at m o w ≡ sets o at (bytes_of k n)
put_bytes o at k m n w e d h =
    let l = length-bytes_of k n in
    let is_w : w ≡ bytes_of k n = e ∙ be_bytes_of k n in
    put_mid-paste at m o w (bytes_of k n) k is_w (sym d) (sym l) ∙ paste_all o at (bytes_of k n) k (sym l)
    ∙ sym (append_assoc (take at o) (bytes_of k n) (drop (at + k) o)) ∙ sym (rw l at (sets-eq (bytes_of k n) o at (rw l h)))

-- one run of bytes put in place, and another after it
pub sets-append : (l : List ℕ) (i : ℕ) (v w : List ℕ) → sets (sets l i v) (i + length v) w ≡ sets l i (v ++ w)
sets-append l i [] w = ap (λ (k : ℕ). sets l k w) (add-zero i)
sets-append l i (a ∷ v) w =
    let e : i + suc (length v) ≡ suc i + length v = omega arith in
    ap (λ (k : ℕ). sets (sets (set l i a) (suc i) v) k w) e ∙ sets-append (set l i a) (suc i) v w
