-- Writing a varint. Assumes nothing.
use Rattle.std.specs.Prelude.{Some, Ok, Err}
use Rattle.short_forms.specs.Short.{varint_of}
use Rattle.walks.proofs.Words.{◌≡◌, refl, sym, ap, ◌∙◌, ℕ, zero, suc, ◌+◌, ◌-◌, ◌*◌, ◌/◌, ◌%◌, ◌^◌, ◌≤◌, ◌<◌, pow-succ', div-div-eq-div-mul, mod-lt, arith, List, [], ◌∷◌, ◌++◌, length, take, length-append, take_at, sets, digits_lt, digits_div, digits_mod, pow-add, pow_pos, pow_mono, le-leb, lt-leb}
use Rattle.wire.proofs.Terms.{num, bytes_of, largest, size_of, value_of, read_varint, encode_as, least_width, least_size, encode, output_too_short, number_too_large, writing, refuses, write_at, write_varint, EveryFormRead, ReadBack, Shortest}
use Rattle.wire.proofs.{Numbers.pow_256, Numbers.length-bytes_of, Numbers.num-bytes_of, Numbers.bytes_of-first, Numbers.bytes_of_halves, Reading.split, Reading.size_of-at, Reading.read_whole, Reading.read-less, Reading.no_whole_nil, Reading.whole_incomplete, Reading.whole_same}

-- k + 1 bytes whose first one says so
pub read-bytes : (k n : ℕ) → n < 256 ^ suc k → size_of (n / 256 ^ k) ≡ suc k → (r : List ℕ)
    → read_varint (bytes_of (suc k) n ++ r) ≡ Some (varint_of (value_of (suc k) n) (suc k))
read-bytes k n h z r =
    let l : size_of (n / 256 ^ k) ≤ suc (length (bytes_of k n ++ r)) = omega (arith, length-append (bytes_of k n) r, length-bytes_of k n) in
    let is_n : num (n / 256 ^ k ∷ bytes_of k n) ≡ n = rw (← (bytes_of-first k n h)) (num-bytes_of (suc k) n h) in
    rw (bytes_of-first k n h, read_whole (n / 256 ^ k) (bytes_of k n ++ r) l, z, take_at (bytes_of k n) r k (length-bytes_of k n), is_n)

-- the bytes of a number whose first one says that k + 1 of them are a varint, and b more
pub read_top : (q k b n v : ℕ) → 2 ^ q ≡ suc k → n / 256 ^ b / 256 ^ k / 64 ≡ q → n / 256 ^ b < 256 ^ suc k
    → v ≡ n / 256 ^ b % 2 ^ (8 * suc k - 2) → Some (varint_of v (suc k)) ≡ read_varint (bytes_of (suc k + b) n)
unfolding value_of
read_top q k b n v d e h is_v =
    let z : size_of (n / 256 ^ b / 256 ^ k) ≡ suc k = sym (size_of-at (n / 256 ^ b / 256 ^ k) q e) ∙ d in
    rw (is_v, bytes_of_halves (suc k) b n) (sym (read-bytes k (n / 256 ^ b) h z (bytes_of b (n % 256 ^ b))))

-- eight bytes whose first one says eight, or four
pub top_eight : (w : ℕ) → 192 ≤ w / 2 ^ 56 → w < 2 ^ 64 → Some (varint_of (w - 13835058055282163712) 8) ≡ read_varint (bytes_of 8 w)
top_eight w l h = read_top 3 7 0 w _ refl (omega arith) (omega arith) (omega arith)

pub top_four : (w : ℕ) → 128 ≤ w / 2 ^ 56 → w / 2 ^ 56 < 192 → Some (varint_of (w / 4294967296 - 2147483648) 4) ≡ read_varint (bytes_of 8 w)
top_four w l h = read_top 2 3 4 w _ refl (omega arith) (omega arith) (omega arith)

-- ---- over the size

-- the numbers that 2 ^ w bytes hold
room : (w k : ℕ) → 2 ^ w ≡ suc k → 2 ^ (8 * 2 ^ w - 2) ≡ 64 * 256 ^ k
room w k e =
    let d : 8 * suc k - 2 ≡ 6 + 8 * k = omega arith in
    rw (e, d, pow-add 2 6 (8 * k), pow_256 k)

form_read : (w k n c : ℕ) → 2 ^ w ≡ suc k → w ≤ 3 → 256 ^ k ≡ c → n < 64 * c → (r : List ℕ)
    → read_varint (bytes_of (suc k) (w * (64 * c) + n) ++ r) ≡ Some (varint_of n (suc k))
unfolding size_of value_of
form_read w k n c e h is_c l r =
    let m : ℕ = w * (64 * c) + n in
    let fits : m < 4 * (64 * c) = digits_lt {q = w} {m = 4} (omega arith) l in
    let less : m < 256 ^ suc k = rw (pow-succ' 256 k, is_c) (omega arith) in
    let swap : c * 64 ≡ 64 * c = omega arith in
    let top : m / 256 ^ k / 64 ≡ w = rw (is_c, div-div-eq-div-mul, swap) (digits_div w l) in
    let size : size_of (m / 256 ^ k) ≡ suc k = rw (top, e) in
    let is_r : 2 ^ (8 * suc k - 2) ≡ 64 * c = rw (← e, room w k e, is_c) in
    let v : value_of (suc k) m ≡ n = rw is_r (digits_mod w l) in
    read-bytes k m less size r ∙ rw v

pub every_form_read : EveryFormRead
unfolding encode_as
every_form_read w n h l rest = go (2 ^ w) refl (pow_pos w)
  where
    go : (j : ℕ) → 2 ^ w ≡ j → 0 < j → read_varint (bytes_of (2 ^ w) (w * 2 ^ (8 * 2 ^ w - 2) + n) ++ rest) ≡ Some (varint_of n (2 ^ w))
    go zero e p = absurd (let z : ⊥ = omega arith in z)
    go (suc k) e p =
        let q = room w k e in
        rw (q, e) (form_read w k n (256 ^ k) e h refl (rw (← q) l) rest)

-- ---- the least size

pub width_0 : (n : ℕ) → n ≤ 63 → least_width n ≡ 0
unfolding least_width
width_0 n h = rw (le-leb n 63 h)

pub width_1 : (n : ℕ) → 63 < n → n ≤ 16383 → least_width n ≡ 1
unfolding least_width
width_1 n g h = rw (lt-leb n 63 g, le-leb n 16383 h)

pub width_2 : (n : ℕ) → 16383 < n → n ≤ 1073741823 → least_width n ≡ 2
unfolding least_width
width_2 n g h = rw (lt-leb n 63 (omega arith), lt-leb n 16383 g, le-leb n 1073741823 h)

pub width_3 : (n : ℕ) → 1073741823 < n → least_width n ≡ 3
unfolding least_width
width_3 n g = rw (lt-leb n 63 (omega arith), lt-leb n 16383 (omega arith), lt-leb n 1073741823 g)

-- the least width is at most 3, a number up to the largest fits it, and it fits no smaller one
pub record Least (n w : ℕ) : Type 0 where
  pub most : w ≤ 3
  pub fits : n ≤ 2 ^ 62 - 1 → n < 2 ^ (8 * 2 ^ w - 2)
  pub none : (v : ℕ) → v < w → 2 ^ (8 * 2 ^ v - 2) ≤ n

below : (n w : ℕ) → 2 ^ (8 * 2 ^ w - 2) ≤ n → (v : ℕ) → v < suc w → 2 ^ (8 * 2 ^ v - 2) ≤ n
below n w h v l =
    let a : v ≤ w = omega arith in
    let b : 2 ^ v ≤ 2 ^ w = pow_mono a in
    let c : 8 * 2 ^ v - 2 ≤ 8 * 2 ^ w - 2 = omega arith in
    omega (arith, pow_mono c)

pub least : (n : ℕ) → Least n (least_width n)
least n = split n 63
    (λ h. rw (width_0 n h) (record { most = omega arith; fits = λ k. omega arith; none = λ v l. absurd (let z : ⊥ = omega arith in z) }))
    (λ g. split n 16383
    (λ h. rw (width_1 n g h) (record { most = omega arith; fits = λ k. omega arith; none = below n 0 (omega arith) }))
    (λ g. split n 1073741823
    (λ h. rw (width_2 n g h) (record { most = omega arith; fits = λ k. omega arith; none = below n 1 (omega arith) }))
    (λ g. rw (width_3 n g) (record { most = omega arith; fits = λ k. omega arith; none = below n 2 (omega arith) }))))

pub least_size_pos : (n : ℕ) → 0 < least_size n
unfolding least_size
least_size_pos n = pow_pos (least_width n)

pub length-encode : (n : ℕ) → length (encode n) ≡ least_size n
unfolding encode encode_as least_size
length-encode n = length-bytes_of (2 ^ least_width n) _

pub read_back : ReadBack
unfolding encode least_size largest
read_back n h rest =
    let f = least n in
    (every_form_read (least_width n) n f.most (f.fits h) rest, length-encode n)

-- a value that a size can have is not above what its width holds
size_holds : (b : ℕ) (s : List ℕ) (n k : ℕ) → read_varint (b ∷ s) ≡ Some (varint_of n k) → (k ≡ 2 ^ (b / 64)) × (n < 2 ^ (8 * 2 ^ (b / 64) - 2))
unfolding size_of value_of
size_holds b s n k e = split (size_of b) (length (b ∷ s)) (λ l.
    let same = whole_same (sym e ∙ read_whole b s l) in
    (same.1, rw same.0 (mod-lt (num (take (2 ^ (b / 64)) (b ∷ s))) (pow_pos (8 * 2 ^ (b / 64) - 2)))))
    (λ l. whole_incomplete e (read-less b s l))

pub shortest : Shortest
unfolding least_size
shortest [] n k e = no_whole_nil e
shortest (b ∷ s) n k e =
    let f = size_holds b s n k e in
    split (least_width n) (b / 64)
    (λ l. rw f.0 (pow_mono l))
    (λ l. absurd (let z : ⊥ = omega (arith, (least n).none (b / 64) l, f.1) in z))

-- ---- as the code writes: the width is known from the number's range

pub size-at : (n w : ℕ) → least_width n ≡ w → 2 ^ w ≡ least_size n
unfolding least_size
size-at n w e = rw e

pub encode-at : (n w m : ℕ) → least_width n ≡ w → m ≡ w * 2 ^ (8 * 2 ^ w - 2) + n → bytes_of (2 ^ w) m ≡ encode n
unfolding encode encode_as
encode-at n w m e d = rw (e, d)

pub encode_one : (n : ℕ) → n ≤ 63 → n ∷ [] ≡ encode n
unfolding bytes_of
encode_one n h =
    let a : n / 256 ^ 0 % 256 ≡ n = omega arith in
    ap (λ (x : ℕ). x ∷ []) (sym a) ∙ encode-at n 0 n (width_0 n h) (omega arith)

module _ (n : ℕ) (out : List ℕ) (place : ℕ) where
  pub write_large : largest < n → writing (Err number_too_large) out ≡ write_varint n out place
  unfolding write_varint refuses
  write_large h = rw (lt-leb n largest h)

  module _ (h : n ≤ largest) where
    pub write_short : length out < place + least_size n → writing (Err output_too_short) out ≡ write_varint n out place
    unfolding write_varint write_at refuses
    write_short l = rw (le-leb n largest h, length-encode n, lt-leb (place + least_size n) (length out) l)

    pub write_fits : place + least_size n ≤ length out → writing (Ok (least_size n)) (sets out place (encode n)) ≡ write_varint n out place
    unfolding write_varint write_at
    write_fits l = rw (le-leb n largest h, length-encode n, le-leb (place + least_size n) (length out) l)
