-- Decimal text. Assumes nothing.
use Rattle.walks.proofs.Words.{◌≡◌, refl, sym, ap, ◌∙◌, ℕ, zero, suc, ◌+◌, ◌-◌, ◌*◌, ◌/◌, ◌%◌, ◌^◌, ◌≤◌, ◌<◌, pow-succ', arith, List, [], ◌∷◌, ◌++◌, length, get_or, length-append, get_or-append, lt-ltb, le-ltb}
use Rattle.std.specs.Fmt as Fmt
use Rattle.std.proofs.lemmas.Fmt.{decimal_by_steps}
use Rattle.text_lines.proofs.Terms.{split, text, last_digit, decimal_by, decimal, value_from, value, AllDigits, ReadBack, DigitsOnly, NoLeadingZero}

-- ---- digit by digit

by_below : (most n : ℕ) → n < 10 → decimal_by (suc most) n ≡ last_digit n ∷ []
unfolding decimal_by
by_below most n h = rw (lt-ltb n 10 h)

by_above : (most n : ℕ) → 10 ≤ n → decimal_by (suc most) n ≡ decimal_by most (n / 10) ++ (last_digit n ∷ [])
unfolding decimal_by
by_above most n h = rw (le-ltb n 10 h)

-- more digits than a number has change nothing
by_enough : (j k n : ℕ) → n < j → n < k → decimal_by j n ≡ decimal_by k n
by_enough zero k n h l = absurd (let z : ⊥ = omega arith in z)
by_enough (suc j) zero n h l = absurd (let z : ⊥ = omega arith in z)
by_enough (suc j) (suc k) n h l = split 10 n
    (λ g. by_above j n g ∙ ap (λ (s : List ℕ). s ++ (last_digit n ∷ [])) (by_enough j k (n / 10) (omega arith) (omega arith)) ∙ sym (by_above k n g))
    (λ g. by_below j n g ∙ sym (by_below k n g))

pub decimal-below : (n : ℕ) → n < 10 → decimal n ≡ last_digit n ∷ []
unfolding decimal
decimal-below n h = by_below n n h

pub decimal_above : (n : ℕ) → 10 ≤ n → decimal n ≡ decimal (n / 10) ++ (last_digit n ∷ [])
unfolding decimal
decimal_above n h =
    by_above n n h ∙ ap (λ (s : List ℕ). s ++ (last_digit n ∷ [])) (by_enough n (suc (n / 10)) (n / 10) (omega arith) (omega arith))

one-more : (n : ℕ) → 10 ≤ n → length (decimal n) ≡ length (decimal (n / 10)) + 1
one-more n h = rw (decimal_above n h, length-append) refl

-- a number that goes by four digits at a time
pub four-more : (n : ℕ) → 10000 ≤ n → length (decimal n) ≡ length (decimal (n / 10000)) + 4
four-more n h =
    let e : n / 10 / 10 / 10 / 10 ≡ n / 10000 = omega arith in
    let m = one-more (n / 10 / 10 / 10) (omega arith) in
    rw (← e) (omega (arith, one-more n (omega arith), one-more (n / 10) (omega arith), one-more (n / 10 / 10) (omega arith), m))

-- a number and its digits
data Spells : ℕ → List ℕ → Type 0 where
  alone : {n : ℕ} → n < 10 → Spells n (last_digit n ∷ [])
  behind : {n : ℕ} {s : List ℕ} → 10 ≤ n → Spells (n / 10) s → Spells n (s ++ (last_digit n ∷ []))

spells_by : (most n : ℕ) → n < most → Spells n (decimal n)
spells_by zero n h = absurd (let z : ⊥ = omega arith in z)
spells_by (suc most) n h = split 10 n
    (λ g. rw (decimal_above n g) (behind g (spells_by most (n / 10) (omega arith))))
    (λ g. rw (decimal-below n g) (alone g))

spells : (n : ℕ) → Spells n (decimal n)
spells n = spells_by (suc n) n (omega arith)

-- ---- the claims

value_snoc : (m : ℕ) (s : List ℕ) (c : ℕ) → value_from m (s ++ (c ∷ [])) ≡ value_from m s * 10 + (c - 48)
unfolding value_from
value_snoc m [] c = refl
value_snoc m (b ∷ s) c = value_snoc (m * 10 + (b - 48)) s c

spelt_value : {n : ℕ} {s : List ℕ} → Spells n s → value_from 0 s ≡ n
unfolding value_from last_digit
spelt_value (alone h) = omega arith
spelt_value {n} (behind {s = s} h r) = value_snoc 0 s (48 + n % 10) ∙ rw (spelt_value r) (omega arith)

pub read_back : ReadBack
unfolding value
read_back n = spelt_value (spells n)

snoc_digit : (s : List ℕ) (n : ℕ) → AllDigits s → AllDigits (s ++ (last_digit n ∷ []))
unfolding last_digit
snoc_digit [] n h = (omega arith, omega arith, tt)
snoc_digit (c ∷ s) n h = (h.0, h.1, snoc_digit s n h.2)

spelt_digits : {n : ℕ} {s : List ℕ} → Spells n s → AllDigits s
spelt_digits {n} (alone h) = snoc_digit [] n tt
spelt_digits {n} (behind {s = s} h r) = snoc_digit s n (spelt_digits r)

pub digits_only : DigitsOnly
digits_only n = spelt_digits (spells n)

-- there is a digit, and the first is not 0
spelt_first : {n : ℕ} {s : List ℕ} → Spells n s → 0 < n → (0 < length s) × (48 < get_or s 0 0)
unfolding last_digit
spelt_first (alone h) p = (omega arith, omega arith)
spelt_first {n} (behind {s = s} h r) p =
    let f = spelt_first r (omega arith) in
    (omega (arith, length-append s (last_digit n ∷ [])), rw (get_or-append s (last_digit n ∷ []) 0 0 f.0) f.1)

pub no_leading_zero : NoLeadingZero
unfolding decimal decimal_by last_digit text
no_leading_zero = (refl, λ n h. (spelt_first (spells n) h).1)

-- a number below a power of ten has no more digits than the power has zeros
pub length_most : (k n : ℕ) → n < 10 ^ suc k → length (decimal n) ≤ suc k
length_most zero n h = rw (decimal-below n h) (omega arith)
length_most (suc k) n h = split 10 n
    (λ g.
    let l : n < 10 * 10 ^ suc k = rw (← (pow-succ' 10 (suc k))) h in
    let r : length (decimal (n / 10)) ≤ suc k = length_most k (n / 10) (omega arith) in
    rw (decimal_above n g, length-append) (omega arith))
    (λ g. rw (decimal-below n g) (omega arith))

-- ---- as the code goes

-- what `itoa` writes
pub decimal_written : (n : ℕ) → n < 2 ^ 64 → Fmt.decimal n ≡ decimal n
unfolding last_digit
decimal_written = decimal_by_steps (λ n s. s ≡ decimal n)
    (λ n h. let e : n % 10 ≡ n = omega arith in rw (decimal-below n h, e))
    (λ n s h e. rw e (sym (decimal_above n h)))
