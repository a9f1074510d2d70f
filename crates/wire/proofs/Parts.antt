-- A varint of which a part has come. Assumes nothing.
use Rattle.std.specs.Prelude.{Option, Some, None}
use Rattle.short_forms.specs.Short.{varint_of}
use Rattle.walks.proofs.Words.{◌≡◌, refl, sym, ap, ◌∙◌, subst, ℕ, zero, suc, ◌+◌, ◌-◌, ◌*◌, ◌/◌, ◌^◌, ◌≤◌, ◌<◌, pow-succ', div-lt_iff_lt-mul, arith, Bool, true, false, ◌&&◌, List, [], ◌∷◌, ◌++◌, length, take, length-append, take-append-add, ltb, eqb, ltb-true, lt-ltb, eqb-true}
use Rattle.wire.proofs.Terms.{Varint, Partial, Impossible, More, Ends, Bytes, num_from, num, bytes_of, size_of, value_of, read_varint, partial, partial_of, held_bytes, starts, is_partial, taken_of, take_varint, GoesOn, OccursExactly, ImpossibleExactly}
use Rattle.wire.proofs.{Numbers.pow_256, Numbers.pow_256_pos, Numbers.num_lt, Numbers.num-first, Numbers.length-bytes_of, Numbers.bytes_of-bytes, Numbers.bytes_of-num, Numbers.num-bytes_of, Numbers.bytes_of-first, Numbers.num_from-append, Reading.size_of_le, Reading.read_nil, Reading.read_whole, Reading.read-less, Reading.less-read}

-- ---- tests joined

pub both : (a b : Bool) → a ≡ true → b ≡ true → (a && b) ≡ true
both true b p q = q
both false b p q = p

pub parted : (a b : Bool) → (a && b) ≡ true → (a ≡ true) × (b ≡ true)
parted true b e = (refl, e)
parted false b e = (e, cc)

-- ---- which parts occur

starts_of : (s : List ℕ) → Bytes s → read_varint s ≡ None → starts (length s) (num s) ≡ true
unfolding starts num num_from
starts_of [] h e = refl
starts_of (b ∷ s) h e = both _ _ (lt-ltb _ _ (num_lt (b ∷ s) h)) (rw (num-first b s h.1) (lt-ltb _ _ (less-read b s e)))

-- what the test says of a part that has bytes: the number fits, its first byte is one and asks for more
pub record Started (k raw : ℕ) : Type 0 where
  pub fits : raw < 256 ^ suc k
  pub less : suc k < size_of (raw / 256 ^ k)
  pub byte : raw / 256 ^ k < 256
  pub most : k < 7

pub started : (k raw : ℕ) → starts (suc k) raw ≡ true → Started k raw
unfolding starts
started k raw e =
    let p = parted (ltb raw (256 ^ suc k)) (ltb (suc k) (size_of (raw / 256 ^ k))) e in
    let h = ltb-true raw (256 ^ suc k) p.0 in
    let d : raw / 256 ^ k < 256 = (div-lt_iff_lt-mul (pow_256_pos k)).1 (rw (← (pow-succ' 256 k)) h) in
    let m = ltb-true (suc k) (size_of (raw / 256 ^ k)) p.1 in
    record { fits = h; less = m; byte = d; most = omega (arith, m, size_of_le (raw / 256 ^ k) d) }

pub starts_zero : (raw : ℕ) → starts 0 raw ≡ true → raw ≡ 0
unfolding starts
starts_zero raw e = eqb-true raw 0 e

pub starts_le : (have raw : ℕ) → starts have raw ≡ true → have ≤ 7
starts_le zero raw e = omega arith
starts_le (suc k) raw e = omega (arith, (started k raw e).most)

held_fits : (have raw : ℕ) → starts have raw ≡ true → raw < 256 ^ have
held_fits zero raw e = rw (starts_zero raw e) (omega arith)
held_fits (suc k) raw e = (started k raw e).fits

held_num : (have raw : ℕ) → starts have raw ≡ true → num (bytes_of have raw) ≡ raw
held_num have raw e = num-bytes_of have raw (held_fits have raw e)

held_incomplete : (have raw : ℕ) → starts have raw ≡ true → read_varint (bytes_of have raw) ≡ None
unfolding bytes_of
held_incomplete zero raw e = read_nil
held_incomplete (suc k) raw e =
    let f = started k raw e in
    subst (λ (s : List ℕ). read_varint s ≡ None) (sym (bytes_of-first k raw f.fits)) (read-less (raw / 256 ^ k) (bytes_of k raw) (rw length-bytes_of f.less))

pub partial_occurs : (s : List ℕ) → Bytes s → read_varint s ≡ None → is_partial (partial_of s) ≡ true
unfolding is_partial partial_of
partial_occurs s h e = starts_of s h e

pub held_partial : (s : List ℕ) → Bytes s → held_bytes (partial_of s) ≡ s
unfolding held_bytes partial_of
held_partial s h = bytes_of-num s h

pub held_bytes_lem : (p : Partial) → Bytes (held_bytes p)
unfolding held_bytes
held_bytes_lem p = bytes_of-bytes p.have p.raw

pub held_read : (p : Partial) → is_partial p ≡ true → read_varint (held_bytes p) ≡ None
unfolding held_bytes is_partial
held_read p e = held_incomplete p.have p.raw e

pub partial_held : (p : Partial) → is_partial p ≡ true → partial_of (held_bytes p) ≡ p
unfolding held_bytes is_partial partial_of
partial_held p e = λ i. record { have = length-bytes_of p.have p.raw i; raw = held_num p.have p.raw e i }

pub occurs_exactly : OccursExactly
occurs_exactly p = (
  λ e. (held_bytes p, held_bytes_lem p, held_read p e, partial_held p e),
  λ o. subst (λ (x : Partial). is_partial x ≡ true) o.3 (partial_occurs o.0 o.1 o.2),
)

pub goes_on : GoesOn
unfolding take_varint
goes_on s t h e = rw (partial_occurs s h e, held_partial s h) (go s)
  where
    go : (s : List ℕ) → taken_of (partial_of s).have (s ++ t) (read_varint (s ++ t)) ≡ taken_of (length s) (s ++ t) (read_varint (s ++ t))
    go s = unfold partial_of in refl

-- ---- the test as the code computes it

not_so : (t : Bool) → (t ≡ true → ⊥) → false ≡ t
not_so true h = absurd (h refl)
not_so false h = refl

pub starts_first : (have raw : ℕ) → have ≡ 0 → eqb raw 0 ≡ starts have raw
unfolding starts
starts_first zero raw e = refl
starts_first (suc k) raw e = absurd (let z : ⊥ = omega arith in z)

pub starts_large : (have raw : ℕ) → 7 < have → false ≡ starts have raw
starts_large have raw h = not_so (starts have raw) (λ e. let z : ⊥ = omega (arith, starts_le have raw e) in z)

shift_fits : (have raw : ℕ) → raw / 2 ^ (8 * have) ≡ 0 → raw < 256 ^ have
shift_fits have raw e =
    let d : raw / 256 ^ have < 1 = rw (← (pow_256 have), e) (omega arith) in
    omega (arith, (div-lt_iff_lt-mul (pow_256_pos have)).0 d)

fits_shift : (have raw : ℕ) → raw < 256 ^ have → raw / 2 ^ (8 * have) ≡ 0
fits_shift have raw h =
    let d : raw / 256 ^ have < 1 = (div-lt_iff_lt-mul (pow_256_pos have)).1 (omega arith) in
    rw (pow_256 have) (omega arith)

pub starts_high : (have raw : ℕ) → (raw / 2 ^ (8 * have) ≡ 0 → ⊥) → false ≡ starts have raw
starts_high have raw h = not_so (starts have raw) (λ e. h (fits_shift have raw (held_fits have raw e)))

-- the first byte, as a shift finds it
pub shift_first : (k raw : ℕ) → raw / 2 ^ (8 * (suc k - 1)) ≡ raw / 256 ^ k
shift_first k raw = let e : suc k - 1 ≡ k = omega arith in rw (e, pow_256 k)

pub first_fits : (have raw : ℕ) → 0 < have → raw / 2 ^ (8 * have) ≡ 0 → raw / 2 ^ (8 * (have - 1)) < 256
first_fits zero raw z e = absurd (let z : ⊥ = omega arith in z)
first_fits (suc k) raw z e =
    rw (shift_first k raw) ((div-lt_iff_lt-mul (pow_256_pos k)).1 (rw (← (pow-succ' 256 k)) (shift_fits (suc k) raw e)))

pub starts_last : (have raw : ℕ) → 0 < have → raw / 2 ^ (8 * have) ≡ 0 → ltb have (size_of (raw / 2 ^ (8 * (have - 1)))) ≡ starts have raw
unfolding starts
starts_last zero raw z e = absurd (let z : ⊥ = omega arith in z)
starts_last (suc k) raw z e = rw (shift_first k raw, lt-ltb raw (256 ^ suc k) (shift_fits (suc k) raw e))

-- ---- going on from a part, as the code does

num_from_held : (have raw : ℕ) (s : List ℕ) → starts have raw ≡ true → num (bytes_of have raw ++ s) ≡ num_from raw s
unfolding num
num_from_held have raw s e =
    num_from-append 0 (bytes_of have raw) s ∙ ap (λ (n : ℕ). num_from n s) (held_num have raw e)

-- what the code knows of a part that has bytes, and of its varint's size
pub record Goes (have raw size : ℕ) : Type 0 where
  pub more : have < size
  pub most : size ≤ 8
  pub fits : raw < 256 ^ have
  pub byte : raw / 2 ^ (8 * (have - 1)) < 256

pub goes : (have raw : ℕ) → 0 < have → starts have raw ≡ true → Goes have raw (size_of (raw / 2 ^ (8 * (have - 1))))
goes zero raw h e = absurd (let z : ⊥ = omega arith in z)
goes (suc k) raw h e =
    let f = started k raw e in
    rw (shift_first k raw) (record { more = f.less; most = size_of_le (raw / 256 ^ k) f.byte; fits = f.fits; byte = rw (shift_first k raw) f.byte })

module _ (s : List ℕ) where
  joined-less : (k raw : ℕ) → starts (suc k) raw ≡ true → suc k + length s < size_of (raw / 256 ^ k) → read_varint (bytes_of (suc k) raw ++ s) ≡ None
  joined-less k raw e l =
      rw (bytes_of-first k raw (started k raw e).fits)
      (read-less (raw / 256 ^ k) (bytes_of k raw ++ s) (omega (arith, length-append (bytes_of k raw) s, length-bytes_of k raw)))

  joined-whole : (k raw m : ℕ) → starts (suc k) raw ≡ true → size_of (raw / 256 ^ k) ≡ suc k + m → m ≤ length s
      → read_varint (bytes_of (suc k) raw ++ s) ≡ Some (varint_of (value_of (suc k + m) (num_from raw (take m s))) (suc k + m))
  joined-whole k raw m e z l =
      let is_held = bytes_of-first k raw (started k raw e).fits in
      let front : take (suc k + m) (bytes_of (suc k) raw ++ s) ≡ bytes_of (suc k) raw ++ take m s =
      rw length-bytes_of at (take-append-add (bytes_of (suc k) raw) s m) in
      let front' : take (suc k + m) (raw / 256 ^ k ∷ (bytes_of k raw ++ s)) ≡ bytes_of (suc k) raw ++ take m s =
      ap (λ (l : List ℕ). take (suc k + m) (l ++ s)) (sym is_held) ∙ front in
      let fits : size_of (raw / 256 ^ k) ≤ length (raw / 256 ^ k ∷ (bytes_of k raw ++ s)) = omega (arith, length-append (bytes_of k raw) s, length-bytes_of k raw) in
      rw (is_held, read_whole (raw / 256 ^ k) (bytes_of k raw ++ s) fits, z, front', num_from_held (suc k) raw (take m s) e)

  pub goes_part : (have raw : ℕ) → 0 < have → starts have raw ≡ true → have + length s < size_of (raw / 2 ^ (8 * (have - 1)))
      → More (partial (have + length s) (num_from raw s)) ≡ take_varint (partial have raw) s
  unfolding take_varint is_partial held_bytes taken_of partial_of
  goes_part zero raw h e l = absurd (let z : ⊥ = omega arith in z)
  goes_part (suc k) raw h e l =
      let len : length (bytes_of (suc k) raw ++ s) ≡ suc k + length s = omega (arith, length-append (bytes_of (suc k) raw) s, length-bytes_of (suc k) raw) in
      rw (e, joined-less k raw e (rw (shift_first k raw) at l), len, num_from_held (suc k) raw s e)

  pub goes_whole : (have raw size : ℕ) → 0 < have → starts have raw ≡ true → size ≡ size_of (raw / 2 ^ (8 * (have - 1))) → size - have ≤ length s
      → Ends (size - have) (value_of size (num_from raw (take (size - have) s))) ≡ take_varint (partial have raw) s
  unfolding take_varint is_partial held_bytes taken_of
  goes_whole zero raw size h e z l = absurd (let z : ⊥ = omega arith in z)
  goes_whole (suc k) raw size h e z l =
      let is_s : size ≡ size_of (raw / 256 ^ k) = rw (shift_first k raw) at z in
      let d : suc k + (size - suc k) ≡ size = omega (arith, (started k raw e).less) in
      rw (e, joined-whole k raw (size - suc k) e (sym (d ∙ is_s)) l, d)

-- ---- from the first byte on

empty-take : (s : List ℕ) → take_varint (partial_of []) s ≡ taken_of 0 s (read_varint s)
empty-take s = goes_on [] s tt read_nil

module _ (s : List ℕ) (r : Option Varint) (e : r ≡ read_varint s) where
  pub begins_whole : (read : Varint) → r ≡ Some read → Ends read.size read.value ≡ take_varint (partial_of []) s
  unfolding taken_of
  begins_whole read d =
      let z : read.size - 0 ≡ read.size = omega arith in
      let w : read_varint s ≡ Some read = sym e ∙ d in
      sym (empty-take s ∙ rw (w, z))

  pub begins_part : r ≡ None → More (partial (0 + length s) (num_from 0 s)) ≡ take_varint (partial_of []) s
  unfolding taken_of partial_of num
  begins_part d =
      let w : read_varint s ≡ None = sym e ∙ d in
      let z : 0 + length s ≡ length s = omega arith in
      sym (empty-take s ∙ rw (w, z))

pub empty-is : partial_of [] ≡ partial 0 0
unfolding partial_of num num_from
empty-is = refl

-- ---- the whole call

pub take_impossible : (p : Partial) (s : List ℕ) → is_partial p ≡ false → Impossible ≡ take_varint p s
unfolding take_varint
take_impossible p s e = rw e

taken_possible : (have : ℕ) (joined : List ℕ) (v : Option Varint) → taken_of have joined v ≡ Impossible → ⊥
unfolding taken_of
taken_possible have joined None e = let z : ◌≡◌ {A = ℕ} 0 1 = cc in omega arith
taken_possible have joined (Some read) e = let z : ◌≡◌ {A = ℕ} 0 1 = cc in omega arith

pub impossible_exactly : ImpossibleExactly
impossible_exactly p s = (go (is_partial p) refl, λ e. sym (take_impossible p s e))
  where
    go : (b : Bool) → is_partial p ≡ b → take_varint p s ≡ Impossible → is_partial p ≡ false
    go false d e = d
    go true d e = absurd (taken_possible p.have (held_bytes p ++ s) (read_varint (held_bytes p ++ s)) (unfold take_varint in rw d at e))

pub take_empty : (p : Partial) (s : List ℕ) → p.have ≡ 0 → is_partial p ≡ true → take_varint (partial_of []) s ≡ take_varint p s
unfolding is_partial
take_empty p s h e =
    let r : p.raw ≡ 0 = starts_zero p.raw (rw h at e) in
    ap (λ (q : Partial). take_varint q s) (empty-is ∙ (λ i. record { have = sym h i; raw = sym r i }))
