-- What the first byte of each part of an item decides. Assumes nothing.
use Rattle.walks.proofs.Words.{◌≡◌, refl, ap, ◌∙◌, Bool, true, false, ◌&&◌, ◌||◌, and-false, and_assoc, ℕ, suc, ◌+◌, ◌<◌, arith, List, ◌∷◌, length, leb, lt-leb, add-suc, add-zero, suc-add, zero-add}
use Rattle.capsule_protocol.proofs.Terms.{Rule, Class, one, every, up_to, ◌or◌, optional, ◌then◌, many, is, is_space, is_digit, is_key_start, is_key_byte, is_unescaped, is_escapable, is_token_start, is_token_byte, is_base64, is_bit, sf_integer, sf_decimal, chr, sf_string, sf_token, sf_binary, sf_boolean, bare_item, key, parameter, parameters, within, up_to_after}
use Rattle.capsule_protocol.proofs.Joining.{front_same, back_same, then_none, then_if, then_or, then_optional, then_then, after_one, then_one, then_many_lem}

-- ---- runs of bytes that are counted

module _ (most : ℕ) (p : Class) where
  pub none_came : (s : List ℕ) → up_to most p s ≡ up_to_after 0 most p s
  unfolding up_to up_to_after
  none_came s = rw add-zero

  one_came : (n b : ℕ) (s : List ℕ) → up_to_after n most p (b ∷ s) ≡ p b && up_to_after (suc n) most p s
  unfolding up_to_after every
  one_came n b s = rw (add-suc, suc-add) (and_assoc (p b) (every p s) _)

  more_came : (n : ℕ) → most < n → (s : List ℕ) → up_to_after n most p s ≡ false
  unfolding up_to_after
  more_came n h s = rw (lt-leb (length s + n) most (omega arith), and-false (leb 1 (length s + n)), and-false (every p s))

  module _ (y : Rule) (n : ℕ) where
    pub then_up_to : (b : ℕ) (s : List ℕ) → (up_to_after n most p then y) (b ∷ s) ≡ (within n most && y (b ∷ s)) || (p b && (up_to_after (suc n) most p then y) s)
    unfolding ◌then◌ up_to_after every within
    then_up_to b s =
        ap (λ (r : Bool). ((leb 1 (0 + n) && leb (0 + n) most) && y (b ∷ s)) || r) (front_same y (one_came n b) s ∙ then_if (p b) (up_to_after (suc n) most p) y s)
        ∙ ap (λ (k : ℕ). ((leb 1 k && leb k most) && y (b ∷ s)) || (p b && (up_to_after (suc n) most p then y) s)) (zero-add n)

    pub too_many : most < n → (s : List ℕ) → (up_to_after n most p then y) s ≡ false
    too_many h s = front_same y (more_came n h) s ∙ then_none y s

  pub then_up_to-first : (y : Rule) (b : ℕ) (s : List ℕ) → (up_to most p then y) (b ∷ s) ≡ p b && (up_to_after 1 most p then y) s
  unfolding within
  then_up_to-first y b s = front_same y none_came (b ∷ s) ∙ then_up_to y 0 b s

-- ---- one byte, then a rule that joins two more

module _ (p : Class) (y z : Rule) (b : ℕ) (s : List ℕ) where
  pub then_one_then : ((one p then y) then z) (b ∷ s) ≡ p b && (y then z) s
  then_one_then = then_then (one p) y z (b ∷ s) ∙ then_one p (y then z) b s

-- ---- bare items, where y comes after them

-- what comes after a sign
module _ (y z : Rule) (b : ℕ) (s : List ℕ) where
  pub signed : ((optional (one (is 0x2d)) then y) then z) (b ∷ s) ≡ (y then z) (b ∷ s) || (is 0x2d b && (y then z) s)
  signed =
      then_then (optional (one (is 0x2d))) y z (b ∷ s)
      ∙ then_optional (one (is 0x2d)) (y then z) (b ∷ s)
      ∙ ap (λ (r : Bool). (y then z) (b ∷ s) || r) (then_one (is 0x2d) (y then z) b s)

numbers : (d m i j k l r : Bool) → ((d && i) || (m && j)) || (((d && k) || (m && l)) || r) ≡ ((d && (i || k)) || (m && (j || l))) || r
numbers true true true j k l r = refl
numbers true true false true true l r = refl
numbers true true false true false l r = refl
numbers true true false false k l r = refl
numbers true false true j k l r = refl
numbers true false false j k l r = refl
numbers false true i true k l r = refl
numbers false true i false k l r = refl
numbers false false i j k l r = refl

-- an integer, or a decimal, of which the sign and n digits came
abbrev pub number_after : ℕ → Rule → Rule
number_after n y = (up_to_after n 15 is_digit then y) or (up_to_after n 12 is_digit then one (is 0x2e) then up_to 3 is_digit then y)

module _ (y : Rule) (b : ℕ) (s : List ℕ) where
  integer_first : (sf_integer then y) (b ∷ s) ≡ (is_digit b && (up_to_after 1 15 is_digit then y) s) || (is 0x2d b && (up_to_after 0 15 is_digit then y) s)
  unfolding sf_integer
  integer_first =
      signed (up_to 15 is_digit) y b s
      ∙ ap (λ (r : Bool). r || (is 0x2d b && (up_to 15 is_digit then y) s)) (then_up_to-first 15 is_digit y b s)
      ∙ ap (λ (r : Bool). (is_digit b && (up_to_after 1 15 is_digit then y) s) || (is 0x2d b && r)) (front_same y (none_came 15 is_digit) s)

  decimal-first : (sf_decimal then y) (b ∷ s)
      ≡ (is_digit b && (up_to_after 1 12 is_digit then one (is 0x2e) then up_to 3 is_digit then y) s) || (is 0x2d b && (up_to_after 0 12 is_digit then one (is 0x2e) then up_to 3 is_digit then y) s)
  unfolding sf_decimal
  decimal-first =
      signed (up_to 12 is_digit then one (is 0x2e) then up_to 3 is_digit) y b s
      ∙ (λ i. tail (b ∷ s) i || (is 0x2d b && tail s i))
      ∙ ap (λ (r : Bool). r || (is 0x2d b && (up_to 12 is_digit then after) s)) (then_up_to-first 12 is_digit after b s)
      ∙ ap (λ (r : Bool). (is_digit b && (up_to_after 1 12 is_digit then after) s) || (is 0x2d b && r)) (front_same after (none_came 12 is_digit) s)
    where
      after : Rule
      after = one (is 0x2e) then up_to 3 is_digit then y

      tail : (t : List ℕ) → ((up_to 12 is_digit then one (is 0x2e) then up_to 3 is_digit) then y) t ≡ (up_to 12 is_digit then after) t
      tail t = then_then (up_to 12 is_digit) (one (is 0x2e) then up_to 3 is_digit) y t ∙ back_same (up_to 12 is_digit) (then_then (one (is 0x2e)) (up_to 3 is_digit) y) t

  string_first : (sf_string then y) (b ∷ s) ≡ is 0x22 b && (many chr then one (is 0x22) then y) s
  unfolding sf_string
  string_first = then_one_then (is 0x22) (many chr then one (is 0x22)) y b s ∙ ap (λ (r : Bool). is 0x22 b && r) (then_then (many chr) (one (is 0x22)) y s)

  token_first : (sf_token then y) (b ∷ s) ≡ is_token_start b && (every is_token_byte then y) s
  unfolding sf_token
  token_first = then_one_then is_token_start (every is_token_byte) y b s

  binary_first : (sf_binary then y) (b ∷ s) ≡ is 0x3a b && (every is_base64 then one (is 0x3a) then y) s
  unfolding sf_binary
  binary_first = then_one_then (is 0x3a) (every is_base64 then one (is 0x3a)) y b s ∙ ap (λ (r : Bool). is 0x3a b && r) (then_then (every is_base64) (one (is 0x3a)) y s)

  boolean_first : (sf_boolean then y) (b ∷ s) ≡ is 0x3f b && (one is_bit then y) s
  unfolding sf_boolean
  boolean_first = then_one_then (is 0x3f) (one is_bit) y b s

  pub bare_item_first : (bare_item then y) (b ∷ s)
      ≡ ((is_digit b && number_after 1 y s) || (is 0x2d b && number_after 0 y s))
      || ((is 0x22 b && (many chr then one (is 0x22) then y) s)
      || ((is_token_start b && (every is_token_byte then y) s)
      || ((is 0x3a b && (every is_base64 then one (is 0x3a) then y) s)
      || (is 0x3f b && (one is_bit then y) s))))
  unfolding bare_item
  bare_item_first =
      kinds
      ∙ (λ i. integer_first i || (decimal-first i || (string_first i || (token_first i || (binary_first i || boolean_first i)))))
      ∙ numbers (is_digit b) (is 0x2d b) _ _ _ _ _
    where
      kinds : ((sf_integer or sf_decimal or sf_string or sf_token or sf_binary or sf_boolean) then y) (b ∷ s)
          ≡ (sf_integer then y) (b ∷ s) || ((sf_decimal then y) (b ∷ s) || ((sf_string then y) (b ∷ s) || ((sf_token then y) (b ∷ s) || ((sf_binary then y) (b ∷ s) || (sf_boolean then y) (b ∷ s)))))
      kinds =
          then_or sf_integer _ y (b ∷ s)
          ∙ ap (λ (r : Bool). (sf_integer then y) (b ∷ s) || r) (then_or sf_decimal _ y (b ∷ s)
          ∙ ap (λ (r : Bool). (sf_decimal then y) (b ∷ s) || r) (then_or sf_string _ y (b ∷ s)
          ∙ ap (λ (r : Bool). (sf_string then y) (b ∷ s) || r) (then_or sf_token _ y (b ∷ s)
          ∙ ap (λ (r : Bool). (sf_token then y) (b ∷ s) || r) (then_or sf_binary sf_boolean y (b ∷ s)))))

-- ---- characters of a string

pub string_next : (y : Rule) (b : ℕ) (s : List ℕ)
    → (many chr then one (is 0x22) then y) (b ∷ s)
    ≡ (is 0x22 b && y s) || ((is_unescaped b && (many chr then one (is 0x22) then y) s) || (is 0x5c b && (one is_escapable then many chr then one (is 0x22) then y) s))
unfolding chr
string_next y b s = then_many_lem chr (one (is 0x22) then y) b s ∙ (λ i. then_one (is 0x22) y b s i || characters i)
  where
    rest : Rule
    rest = many chr then one (is 0x22) then y

    escaped : (t : List ℕ) → (one (is 0x5c) then one is_escapable) (b ∷ t) ≡ is 0x5c b && one is_escapable t
    escaped t = then_one (is 0x5c) (one is_escapable) b t

    characters : ((λ t. chr (b ∷ t)) then rest) s ≡ (is_unescaped b && rest s) || (is 0x5c b && (one is_escapable then rest) s)
    characters =
        then_or (λ t. one is_unescaped (b ∷ t)) (λ t. (one (is 0x5c) then one is_escapable) (b ∷ t)) rest s
        ∙ (λ i. after_one is_unescaped rest b s i || (front_same rest escaped s ∙ then_if (is 0x5c b) (one is_escapable) rest s) i)

-- ---- parameters

module _ (x : Rule) (b : ℕ) (s : List ℕ) where
  -- after `=` or without it
  pub value-first : (optional (one (is 0x3d) then bare_item) then x) (b ∷ s) ≡ x (b ∷ s) || (is 0x3d b && (bare_item then x) s)
  value-first = then_optional (one (is 0x3d) then bare_item) x (b ∷ s) ∙ ap (λ (r : Bool). x (b ∷ s) || r) (then_one_then (is 0x3d) bare_item x b s)

  pub key-first : (key then x) (b ∷ s) ≡ is_key_start b && (every is_key_byte then x) s
  unfolding key
  key-first = then_one_then is_key_start (every is_key_byte) x b s

  pub parameters-first : (parameters then x) (b ∷ s)
      ≡ x (b ∷ s) || (is 0x3b b && (every is_space then key then optional (one (is 0x3d) then bare_item) then parameters then x) s)
  unfolding parameters parameter
  parameters-first =
      then_many_lem (one (is 0x3b) then every is_space then parameter) x b s
      ∙ ap (λ (r : Bool). x (b ∷ s) || r)
      (front_same (parameters then x) (λ t. then_one (is 0x3b) (every is_space then parameter) b t) s
      ∙ then_if (is 0x3b b) (every is_space then parameter) (parameters then x) s
      ∙ ap (λ (r : Bool). is 0x3b b && r)
      (then_then (every is_space) parameter (parameters then x) s
      ∙ back_same (every is_space) (then_then key (optional (one (is 0x3d) then bare_item)) (parameters then x)) s))
