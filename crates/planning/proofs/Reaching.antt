-- What a piece comes to before the value, and the short way through a header. Assumes nothing.
use Rattle.std.specs.Prelude.{Option, Some, None}
use Rattle.planning.specs.Headers.{short_head}
use Rattle.short_forms.specs.Short.{varint_of}
use Rattle.walks.proofs.Words.{◌≡◌, refl, sym, ap, ◌∙◌, ℕ, ◌+◌, ◌-◌, ◌*◌, ◌%◌, ◌≤◌, ◌<◌, arith, Bool, true, false, leb, ltb, eqb, eqb-true, le-leb, lt-leb, lt-ltb, le-ltb, leb-true, ltb-true, ltb-false, List, [], ◌∷◌, length, get_or, take, drop, length-drop}
use Rattle.planning.proofs.Terms.{Partial, Ends, num, num_from, read_varint, take_varint, front_one, front_whole, begins_whole, empty-is, Opening, Plan, Reached, Header, Value, extent_of, no_bytes, plan_value, plan_type, plan_by, Within, Reaches, short_header, first_header, read_short, first_one, first_two, first_long, none_found, whole_same, split, zero_one}
use Rattle.planning.proofs.Planning.{length-ends, type_ends}

module _ (op : Opening) (p : List ℕ) where
  pub values : (at t n left : ℕ) (plan : Plan) → at ≤ length p → plan_value op p at t n left ≡ plan → Reaches op p (Value at t n left) plan
  unfolding plan_by Within
  values at t n left plan a e = record { plans = e; within = a }

  pub valued : (r : Reached) (at t n left : ℕ) (plan : Plan) → Reaches op p r plan → r ≡ Value at t n left → plan_value op p at t n left ≡ plan
  unfolding plan_by
  valued r at t n left plan h e = rw e at h.plans

  pub value-within : (r : Reached) (at t n left : ℕ) (plan : Plan) → Reaches op p r plan → r ≡ Value at t n left → at ≤ length p
  unfolding Within
  value-within r at t n left plan h e = rw e at h.within

-- ---- the short way

begins : (s : List ℕ) (v k : ℕ) → read_varint s ≡ Some (varint_of v k) → take_varint no_bytes s ≡ Ends k v
begins s v k e = sym (begins_whole s (read_varint s) refl (varint_of v k) e ∙ ap (λ (q : Partial). take_varint q s) empty-is)

-- a type of one byte, and a length that is whole
header : (op : Opening) (p : List ℕ) (n k : ℕ) → 0 < length p → get_or p 0 0 < 64 → read_varint (drop 1 p) ≡ Some (varint_of n k)
    → plan_type op p no_bytes ≡ plan_value op p (1 + k) (get_or p 0 0) n (extent_of op (get_or p 0 0) n)
header op p n k l h e =
    type_ends op p no_bytes 1 (get_or p 0 0) (begins p (get_or p 0 0) 1 (front_one p l h)) ∙ length-ends op p 1 (get_or p 0 0) no_bytes k n (begins (drop 1 p) n k e)

second : (p : List ℕ) → get_or (drop 1 p) 0 0 ≡ get_or p 1 0
second [] = refl
second (a ∷ p) = refl

-- the number of the second and the third byte
two_bytes : (p : List ℕ) → 2 < length p → num (take 2 (drop 1 p)) ≡ get_or p 1 0 * 256 + get_or p 2 0
unfolding num num_from
two_bytes [] h = absurd (let z : ⊥ = omega arith in z)
two_bytes (a ∷ []) h = absurd (let z : ⊥ = omega arith in z)
two_bytes (a ∷ b ∷ []) h = absurd (let z : ⊥ = omega arith in z)
two_bytes (a ∷ b ∷ c ∷ p) h = omega arith

module _ (op : Opening) (p : List ℕ) (l : 3 ≤ length p) (h : get_or p 0 0 ≤ 63) where
  short-one : get_or p 1 0 < 64 → Reaches op p (Value 2 (get_or p 0 0) (get_or p 1 0) (extent_of op (get_or p 0 0) (get_or p 1 0))) (plan_type op p no_bytes)
  short-one k =
      values op p 2 (get_or p 0 0) (get_or p 1 0) (extent_of op (get_or p 0 0) (get_or p 1 0)) (plan_type op p no_bytes) (omega arith)
      (sym (header op p (get_or p 1 0) 1 (omega arith) (omega arith) (front_one (drop 1 p) (omega (arith, length-drop 1 p)) (omega (arith, second p)) ∙ ap (λ (n : ℕ). Some (varint_of n 1)) (second p))))

  short_two : 64 ≤ get_or p 1 0 → get_or p 1 0 ≤ 127 → get_or p 2 0 < 256
      → let n = (get_or p 1 0 - 64) * 256 + get_or p 2 0 in
      Reaches op p (Value 3 (get_or p 0 0) n (extent_of op (get_or p 0 0) n)) (plan_type op p no_bytes)
  short_two m k c =
      let n = (get_or p 1 0 - 64) * 256 + get_or p 2 0 in
      let v : num (take 2 (drop 1 p)) % 16384 ≡ (get_or p 1 0 - 64) * 256 + get_or p 2 0 = omega (arith, two_bytes p (omega arith)) in
      values op p 3 (get_or p 0 0) n (extent_of op (get_or p 0 0) n) (plan_type op p no_bytes) (omega arith)
      (sym (header op p n 2 (omega arith) (omega arith) (front_whole (drop 1 p) 1 (omega (arith, length-drop 1 p)) (omega (arith, second p)) (omega (arith, length-drop 1 p)) ∙ ap (λ (m : ℕ). Some (varint_of m 2)) v)))

-- as the code reads a short header
pub header_few : (p : List ℕ) → length p < 3 → None ≡ short_header p
unfolding short_header
header_few p h = rw (lt-leb 3 (length p) h)

module _ (p : List ℕ) (l : 3 ≤ length p) (t : ℕ) (is_t : t ≡ get_or p 0 0) where
  pub header_type : 63 < t → None ≡ short_header p
  unfolding short_header
  header_type h = rw (le-leb 3 (length p) l, lt-leb (get_or p 0 0) 63 (omega arith))

  module _ (h : t ≤ 63) where
    header-one : get_or p 1 0 < 64 → Some (short_head 2 t (get_or p 1 0)) ≡ short_header p
    unfolding short_header
    header-one k = rw (le-leb 3 (length p) l, le-leb (get_or p 0 0) 63 (omega arith), lt-ltb (get_or p 1 0) 64 k, is_t)

    header-length : 128 ≤ get_or p 1 0 → None ≡ short_header p
    unfolding short_header
    header-length k = rw (le-leb 3 (length p) l, le-leb (get_or p 0 0) 63 (omega arith), le-ltb (get_or p 1 0) 64 (omega arith), lt-leb (get_or p 1 0) 127 (omega arith))

    header_two : 64 ≤ get_or p 1 0 → get_or p 1 0 < 128 → Some (short_head 3 t ((get_or p 1 0 - 64) * 256 + get_or p 2 0)) ≡ short_header p
    unfolding short_header
    header_two j k =
        rw (le-leb 3 (length p) l, le-leb (get_or p 0 0) 63 (omega arith), le-ltb (get_or p 1 0) 64 (omega arith), le-leb (get_or p 1 0) 127 (omega arith), is_t)

-- the length is a short form after the type's byte
module _ (a : ℕ) (s : List ℕ) (l : 2 ≤ length s) (h : a ≤ 63) where
  header-found : get_or s 1 0 < 256 → (n k : ℕ) → read_short s ≡ Some (varint_of n k) → Some (short_head (1 + k) a n) ≡ short_header (a ∷ s)
  header-found c n k f = split 128 (get_or s 0 0) (λ m. none_found (sym (first_long s (omega arith) m)) f)
      (λ m. split 64 (get_or s 0 0)
      (λ j.
      let same = whole_same (first_two s j m l ∙ f) in
      let e : n ≡ (get_or s 0 0 - 64) * 256 + get_or s 1 0 = omega (arith, same.0) in
      rw (← same.1, e) (header_two (a ∷ s) (omega arith) a refl h j m))
      (λ j.
      let same = whole_same (first_one s (omega arith) j ∙ f) in
      rw (← same.1, ← same.0) (header-one (a ∷ s) (omega arith) a refl h j)))

  header_none : read_short s ≡ None → None ≡ short_header (a ∷ s)
  header_none f = split 128 (get_or s 0 0) (header-length (a ∷ s) (omega arith) a refl h)
      (λ m. split 64 (get_or s 0 0) (λ j. none_found f (sym (first_two s j m l))) (λ j. none_found f (sym (first_one s (omega arith) j))))

module _ (p : List ℕ) (l : 3 ≤ length p) (t : ℕ) (is_t : t ≡ get_or p 0 0) (h : t ≤ 63) where
  pub header-short : get_or p 2 0 < 256 → (n k : ℕ) → read_short (drop 1 p) ≡ Some (varint_of n k) → Some (short_head (1 + k) t n) ≡ short_header p
  header-short c n k f = go p l is_t c f
    where
      go : (p : List ℕ) → 3 ≤ length p → t ≡ get_or p 0 0 → get_or p 2 0 < 256 → read_short (drop 1 p) ≡ Some (varint_of n k) → Some (short_head (1 + k) t n) ≡ short_header p
      go [] l e c f = absurd (let z : ⊥ = omega arith in z)
      go (a ∷ s) l e c f = rw e (header-found a s (omega arith) (omega arith) c n k f)

  pub header-long : read_short (drop 1 p) ≡ None → None ≡ short_header p
  header-long f = go p l is_t f
    where
      go : (p : List ℕ) → 3 ≤ length p → t ≡ get_or p 0 0 → read_short (drop 1 p) ≡ None → None ≡ short_header p
      go [] l e f = absurd (let z : ⊥ = omega arith in z)
      go (a ∷ s) l e f = header_none a s (omega arith) (omega arith) f

-- what a short header comes to
unfoldable ShortReaches : Opening → List ℕ → Option Header → Type 0
ShortReaches op p None = Unit {0}
ShortReaches op p (Some short) = Reaches op p (Value short.at short.ctype short.size (extent_of op short.ctype short.size)) (plan_type op p no_bytes)

short_reaches : (op : Opening) (p : List ℕ) → get_or p 2 0 < 256 → ShortReaches op p (short_header p)
unfolding short_header ShortReaches
short_reaches op p c = go (leb 3 (length p)) refl (leb (get_or p 0 0) 63) refl (ltb (get_or p 1 0) 64) refl (leb (get_or p 1 0) 127) refl
  where
    go : (l : Bool) → leb 3 (length p) ≡ l → (a : Bool) → leb (get_or p 0 0) 63 ≡ a → (b : Bool) → ltb (get_or p 1 0) 64 ≡ b → (d : Bool) → leb (get_or p 1 0) 127 ≡ d → ShortReaches op p (short_header p)
    go false l a e b f d g = rw l tt
    go true l false e b f d g = rw (l, e) tt
    go true l true e true f d g = rw (l, e, f) (short-one op p (leb-true 3 (length p) l) (leb-true (get_or p 0 0) 63 e) (ltb-true (get_or p 1 0) 64 f))
    go true l true e false f true g =
        rw (l, e, f, g) (short_two op p (leb-true 3 (length p) l) (leb-true (get_or p 0 0) 63 e) (ltb-false (get_or p 1 0) 64 f) (leb-true (get_or p 1 0) 127 g) c)
    go true l true e false f false g = rw (l, e, f, g) tt

pub short_reached : (op : Opening) (p : List ℕ) (at t n : ℕ) → get_or p 2 0 < 256 → short_header p ≡ Some (short_head at t n) → Reaches op p (Value at t n (extent_of op t n)) (plan_type op p no_bytes)
unfolding ShortReaches
short_reached op p at t n c e = rw e at (short_reaches op p c)

-- ---- where no byte of the type came before

pub first_reached : (op : Opening) (p : List ℕ) (part : Partial) → get_or p 2 0 < 256 → (at t n : ℕ) → first_header part p ≡ Some (short_head at t n)
    → Reaches op p (Value at t n (extent_of op t n)) (plan_type op p part)
unfolding first_header
first_reached op p part c at t n e = go (eqb part.have 0) refl (eqb part.raw 0) refl
  where
    go : (b : Bool) → eqb part.have 0 ≡ b → (d : Bool) → eqb part.raw 0 ≡ d → Reaches op p (Value at t n (extent_of op t n)) (plan_type op p part)
    go false f d g = zero_one (cc (rw f at e))
    go true f false g = zero_one (cc (rw (f, g) at e))
    go true f true g =
        let h = eqb-true part.have 0 f in
        let z = eqb-true part.raw 0 g in
        let is_part : no_bytes ≡ part = λ i. record { have = sym h i; raw = sym z i } in
        rw (← is_part) (short_reached op p at t n c (rw (f, g) at e))
