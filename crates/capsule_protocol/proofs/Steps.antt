-- One byte more: what the grammar asks for after it, stage by stage. Assumes nothing.
use Rattle.walks.proofs.Words.{◌≡◌, refl, sym, ap, ◌∙◌, Bool, true, false, cond, ◌&&◌, ◌||◌, or-false, and-false, and-true, zero-add, false≢true, ℕ, suc, arith, ◌+◌, ◌-◌, List, [], ◌∷◌, length, take, take_all, length-drop, drop, eqb, leb, leb-true, lt-leb, ltb, eqb-true, ltb-false}
use Rattle.capsule_protocol.proofs.Terms.{Rule, Class, empty, one, every, up_to, ◌then◌, ◌then_many◌, is, is_space, is_lower, is_alpha, is_digit, is_key_start, is_key_byte, is_unescaped, is_escapable, is_token_start, is_token_byte, is_base64, is_bit, sf_integer, sf_decimal, chr, sf_string, sf_token, sf_binary, sf_boolean, bare_item, key, parameters, true_item, in_use, Stage, Reading, Front, Question, Item, Trailing, Semicolon, Key, Equals, Number, Fraction, Text, Escape, Token, Binary, Boolean, Wrong, at, at_if, within, one_more, after_item, after_digits, first_of_bare_item, next_at, rest_of, rest_at, up_to_after, next_of, may_end, may_end_at, Stays, stays_at, is_run, SameRest, RunsExactly}
use Rattle.capsule_protocol.proofs.Joining.{front_same, back_same, then_then, then_one, then_every}
use Rattle.std.specs.List.{prefix_len, IsFirstAndRest}
use mathlib.Core.Bool.{and-eq-true_iff}
use Rattle.capsule_protocol.proofs.Firsts.{none_came, then_up_to, too_many, bare_item_first, string_next, value-first, key-first, parameters-first}

-- a byte of a class is none that the class lacks
apart : (p : Class) (k : ℕ) → p k ≡ false → (b : ℕ) → p b ≡ true → is k b ≡ false
apart p k lacks b has = go (is k b) refl
  where
    go : (t : Bool) → is k b ≡ t → t ≡ false
    go true e = absurd (false≢true (sym lacks ∙ ap p (sym (eqb-true b k e)) ∙ has))
    go false e = refl

-- what comes after the parameters is spaces, if anything
pub record Spaces (x : Rule) : Type 0 where
  pub first : (b : ℕ) (s : List ℕ) → x (b ∷ s) ≡ is_space b && x (0x20 ∷ s)
  pub second : (b : ℕ) (s : List ℕ) → x (0x20 ∷ b ∷ s) ≡ is_space b && x (0x20 ∷ s)

module _ (x : Rule) (spaces : Spaces x) (b : ℕ) (s : List ℕ) where
  pick : (t : Bool) (q r : Reading) {w : Bool} → (t ≡ true → w ≡ rest_of x q s) → (t ≡ false → w ≡ rest_of x r s) → w ≡ rest_of x (cond t q r) s
  pick true q r taken left = taken refl
  pick false q r taken left = left refl

  -- ---- after an item

  item_next : (parameters then x) (b ∷ s) ≡ rest_of x (after_item b) s
  unfolding rest_at after_item at_if
  item_next =
      parameters-first x b s
      ∙ ap (λ (r : Bool). r || (is 0x3b b && rest_at x Semicolon 0 s)) (spaces.first b s)
      ∙ pick (is 0x3b b) _ _
      (λ e. rw (e, apart (is 0x3b) 0x20 refl b e))
      (λ e. pick (is_space b) _ _ (λ f. rw (e, f) (or-false _)) (λ f. rw (e, f)))

  item_not : is 0x3b b ≡ false → is_space b ≡ false → (parameters then x) (b ∷ s) ≡ false
  unfolding rest_at after_item at_if
  item_not e f = item_next ∙ rw (e, f)

  -- ---- stage by stage

  front_next : rest_at x Front 0 (b ∷ s) ≡ rest_of x (next_at Front 0 b) s
  unfolding rest_at next_at at_if
  front_next =
      then_every is_space _ b s
      ∙ ap (λ (r : Bool). r || (is_space b && rest_at x Front 0 s)) (then_one (is 0x3f) _ b s)
      ∙ pick (is_space b) _ _
      (λ e. rw (e, apart is_space 0x3f refl b e))
      (λ e. pick (is 0x3f b) _ _ (λ f. rw (e, f) (or-false _)) (λ f. rw (e, f)))

  semicolon_next : rest_at x Semicolon 0 (b ∷ s) ≡ rest_of x (next_at Semicolon 0 b) s
  unfolding rest_at next_at at_if is_key_start is_lower
  semicolon_next =
      then_every is_space _ b s
      ∙ ap (λ (r : Bool). r || (is_space b && rest_at x Semicolon 0 s)) (key-first _ b s)
      ∙ pick (is_space b) _ _
      (λ e. ap (λ (k : ℕ). (is_key_start k && rest_at x Key 0 s) || (is_space k && rest_at x Semicolon 0 s)) (eqb-true b 0x20 e))
      (λ e. pick (is_key_start b) _ _ (λ f. rw (e, f) (or-false _)) (λ f. rw (e, f)))

  key-next : rest_at x Key 0 (b ∷ s) ≡ rest_of x (next_at Key 0 b) s
  unfolding rest_at next_at is_key_byte is_key_start is_lower is_digit
  key-next =
      then_every is_key_byte _ b s
      ∙ ap (λ (r : Bool). r || (is_key_byte b && rest_at x Key 0 s)) (value-first _ b s)
      ∙ pick (is_key_byte b) _ _
      (λ e. rw (e, item_not (apart is_key_byte 0x3b refl b e) (apart is_key_byte 0x20 refl b e), apart is_key_byte 0x3d refl b e))
      (λ e. pick (is 0x3d b) _ _
      (λ f. rw (e, f, item_not (apart (is 0x3d) 0x3b refl b f) (apart (is 0x3d) 0x20 refl b f)) (or-false _))
      (λ f. rw (e, f) (or-false _ ∙ or-false _ ∙ item_next)))

  -- the first byte tells the kind: each test that holds leaves the others false
  equals_next : rest_at x Equals 0 (b ∷ s) ≡ rest_of x (next_at Equals 0 b) s
  unfolding rest_at next_at first_of_bare_item at_if is_token_start is_lower is_alpha is_digit
  equals_next =
      bare_item_first _ b s
      ∙ pick (is_digit b) _ _
      (λ e. rw (e, apart is_digit 0x2d refl b e, apart is_digit 0x22 refl b e, no_letter e, apart is_digit 0x3a refl b e, apart is_digit 0x3f refl b e) (or-false _ ∙ or-false _))
      (λ e. pick (is 0x2d b) _ _ (λ f. ap first (eqb-true b 0x2d f) ∙ or-false _)
      (λ f. pick (is 0x22 b) _ _ (λ g. ap first (eqb-true b 0x22 g) ∙ or-false _)
      (λ g. pick (is 0x3a b) _ _ (λ h. ap first (eqb-true b 0x3a h) ∙ or-false _)
      (λ h. pick (is 0x3f b) _ _ (λ k. ap first (eqb-true b 0x3f k))
      (λ k. pick (is_token_start b) _ _ (λ l. rw (e, f, g, h, k, l) (or-false _)) (λ l. rw (e, f, g, h, k, l)))))))
    where
      first : ℕ → Bool
      first k =
          ((is_digit k && rest_at x Number 1 s) || (is 0x2d k && rest_at x Number 0 s))
          || ((is 0x22 k && rest_at x Text 0 s) || ((is_token_start k && rest_at x Token 0 s) || ((is 0x3a k && rest_at x Binary 0 s) || (is 0x3f k && rest_at x Boolean 0 s))))

      no_letter : is_digit b ≡ true → is_token_start b ≡ false
      no_letter e =
          let l = leb-true b 0x39 ((and-eq-true_iff (leb 0x30 b) (leb b 0x39)).0 e).1 in
          rw (lt-leb 0x61 b (omega arith), lt-leb 0x41 b (omega arith), apart is_digit 0x2a refl b e)

  -- the point of a decimal, the digits after it and what follows
  abbrev decimals : Rule
  decimals = one (is 0x2e) then up_to 3 is_digit then parameters then x

  decimals-first : decimals (b ∷ s) ≡ is 0x2e b && rest_at x Fraction 0 s
  unfolding rest_at
  decimals-first = then_one (is 0x2e) _ b s ∙ ap (λ (r : Bool). is 0x2e b && r) (front_same (parameters then x) (none_came 3 is_digit) s)

  module _ (n : ℕ) where
    digits-next : (most : ℕ) → within n most && (parameters then x) (b ∷ s) ≡ rest_of x (after_digits b n most) s
    unfolding rest_at after_digits
    digits-next most = pick (within n most) _ _ (λ e. rw e item_next) (λ e. rw e)

    -- with a digit, which neither ends a number nor is its point
    digit_next : is_digit b ≡ true
        → rest_at x Number n (b ∷ s) ≡ (up_to_after (suc n) 15 is_digit then parameters then x) s || (up_to_after (suc n) 12 is_digit then decimals) s
    unfolding rest_at is_digit
    digit_next e =
        (λ i. then_up_to 15 is_digit (parameters then x) n b s i || then_up_to 12 is_digit decimals n b s i)
        ∙ rw (e, item_not (apart is_digit 0x3b refl b e) (apart is_digit 0x20 refl b e), decimals-first, apart is_digit 0x2e refl b e, and-false (within n 15), and-false (within n 12))

    number-next : rest_at x Number n (b ∷ s) ≡ rest_of x (next_at Number n b) s
    unfolding rest_at next_at one_more at_if
    number-next =
        pick (is_digit b) _ _
        (λ e. digit_next e ∙ pick (ltb n 15) _ _
        (λ f. refl)
        (λ f.
        let l = ltb-false n 15 f in
        rw (too_many 15 is_digit (parameters then x) (suc n) (omega arith) s, too_many 12 is_digit decimals (suc n) (omega arith) s)))
        (λ e. (λ i. then_up_to 15 is_digit (parameters then x) n b s i || then_up_to 12 is_digit decimals n b s i) ∙ pick (is 0x2e b) _ _
        (λ f.
        rw (e, item_not (apart (is 0x2e) 0x3b refl b f) (apart (is 0x2e) 0x20 refl b f), decimals-first, f, and-false (within n 15))
        (or-false (within n 12 && rest_at x Fraction 0 s) ∙ pick (within n 12) _ _ (λ g. rw g) (λ g. rw g)))
        (λ f. rw (e, decimals-first, f, and-false (within n 12)) (or-false _ ∙ or-false _ ∙ digits-next 15)))

    fraction_next : rest_at x Fraction n (b ∷ s) ≡ rest_of x (next_at Fraction n b) s
    unfolding rest_at next_at one_more is_digit
    fraction_next =
        then_up_to 3 is_digit _ n b s
        ∙ pick (is_digit b) _ _
        (λ e. pick (ltb n 3) _ _
        (λ f. rw (e, item_not (apart is_digit 0x3b refl b e) (apart is_digit 0x20 refl b e), and-false))
        (λ f. rw (e, item_not (apart is_digit 0x3b refl b e) (apart is_digit 0x20 refl b e), and-false) (let l = ltb-false n 3 f in too_many 3 is_digit _ (suc n) (omega arith) s)))
        (λ e. rw e (or-false _ ∙ digits-next 3))

  text-next : rest_at x Text 0 (b ∷ s) ≡ rest_of x (next_at Text 0 b) s
  unfolding rest_at next_at at_if is_unescaped
  text-next =
      string_next _ b s
      ∙ pick (is 0x22 b) _ _ (λ e. ap rest (eqb-true b 0x22 e) ∙ or-false _)
      (λ e. pick (is 0x5c b) _ _ (λ f. ap rest (eqb-true b 0x5c f))
      (λ f. pick (is_unescaped b) _ _ (λ g. rw (e, f, g) (or-false _)) (λ g. rw (e, f, g))))
    where
      rest : ℕ → Bool
      rest k = (is 0x22 k && rest_at x Item 0 s) || ((is_unescaped k && rest_at x Text 0 s) || (is 0x5c k && rest_at x Escape 0 s))

  token_next : rest_at x Token 0 (b ∷ s) ≡ rest_of x (next_at Token 0 b) s
  unfolding rest_at next_at is_token_byte is_token_start is_lower is_alpha is_digit
  token_next =
      then_every is_token_byte _ b s
      ∙ pick (is_token_byte b) _ _
      (λ e. rw (e, item_not (apart is_token_byte 0x3b refl b e) (apart is_token_byte 0x20 refl b e)))
      (λ e. rw e (or-false _ ∙ item_next))

  binary_next : rest_at x Binary 0 (b ∷ s) ≡ rest_of x (next_at Binary 0 b) s
  unfolding rest_at next_at at_if is_base64 is_lower is_alpha is_digit
  binary_next =
      then_every is_base64 _ b s
      ∙ ap (λ (r : Bool). r || (is_base64 b && rest_at x Binary 0 s)) (then_one (is 0x3a) _ b s)
      ∙ pick (is 0x3a b) _ _ (λ e. ap (λ (k : ℕ). (is 0x3a k && rest_at x Item 0 s) || (is_base64 k && rest_at x Binary 0 s)) (eqb-true b 0x3a e) ∙ or-false _)
      (λ e. pick (is_base64 b) _ _ (λ f. rw (e, f)) (λ f. rw (e, f)))

  -- one byte of a class, and nothing else
  one-next : (p : Class) (stage : Stage) → (one p then rest_at x stage 0) (b ∷ s) ≡ rest_of x (at_if (p b) stage) s
  unfolding rest_at at_if
  one-next p stage = then_one p (rest_at x stage 0) b s ∙ pick (p b) _ _ (λ e. rw e) (λ e. rw e)

  trailing_next : rest_at x Trailing 0 (b ∷ s) ≡ rest_of x (at_if (is_space b) Trailing) s
  unfolding rest_at at_if
  trailing_next = spaces.second b s ∙ pick (is_space b) _ _ (λ e. rw e) (λ e. rw e)

-- ---- all

module _ (x : Rule) (spaces : Spaces x) where
  pub next-rest : (r : Reading) (b : ℕ) (s : List ℕ) → rest_of x r (b ∷ s) ≡ rest_of x (next_of r b) s
  unfolding rest_at next_at
  next-rest r b s = go r.stage r.digits
    where
      go : (stage : Stage) (n : ℕ) → rest_at x stage n (b ∷ s) ≡ rest_of x (next_at stage n b) s
      go Front n = front_next x spaces b s
      go Question n = one-next x spaces b s (is 0x31) Item
      go Item n = item_next x spaces b s
      go Trailing n = trailing_next x spaces b s
      go Semicolon n = semicolon_next x spaces b s
      go Key n = key-next x spaces b s
      go Equals n = equals_next x spaces b s
      go Number n = number-next x spaces b s n
      go Fraction n = fraction_next x spaces b s n
      go Text n = text-next x spaces b s
      go Escape n = one-next x spaces b s is_escapable Text
      go Token n = token_next x spaces b s
      go Binary n = binary_next x spaces b s
      go Boolean n = one-next x spaces b s is_bit Item
      go Wrong n = refl

-- ---- the end

-- a number that ends is whole
pub digits-end : (most n : ℕ) (y : Rule) → (up_to_after n most is_digit then y) [] ≡ within n most && y []
unfolding ◌then◌ up_to_after every within
digits-end most n y = rw zero-add

pub spaces-end : (r : Reading) → rest_of (every is_space) r [] ≡ may_end r
unfolding rest_at may_end_at ◌then◌ ◌then_many◌ every one empty parameters key bare_item sf_integer sf_decimal sf_string sf_token sf_binary sf_boolean up_to chr
spaces-end r = go r.stage r.digits
  where
    go : (stage : Stage) (n : ℕ) → rest_at (every is_space) stage n [] ≡ may_end_at stage n
    go Front n = refl
    go Question n = refl
    go Item n = refl
    go Trailing n = refl
    go Semicolon n = refl
    go Key n = refl
    go Equals n = refl
    go Number n = (λ i. digits-end 15 n (parameters then every is_space) i || digits-end 12 n (one (is 0x2e) then up_to 3 is_digit then parameters then every is_space) i) ∙ rw (and-true, and-false) (or-false _)
    go Fraction n = digits-end 3 n (parameters then every is_space) ∙ and-true _
    go Text n = refl
    go Escape n = refl
    go Token n = refl
    go Binary n = refl
    go Boolean n = refl
    go Wrong n = refl

-- ---- a whole value

pub space_run : Spaces (every is_space)
unfolding every
space_run = record { first = λ b s. refl; second = λ b s. refl }

pub from_front : (s : List ℕ) → in_use s ≡ rest_of (every is_space) (at Front) s
unfolding in_use true_item rest_at
from_front s =
    back_same (every is_space)
    (λ t.
    then_then (one (is 0x3f)) (one (is 0x31) then parameters) (every is_space) t
    ∙ back_same (one (is 0x3f)) (then_then (one (is 0x31)) parameters (every is_space)) t) s

-- ---- bytes that leave the stage as it is

module _ (b : ℕ) (r : Reading) where
  pub key_stays : r.stage ≡ Key → is_key_byte b ≡ true → Stays r b
  unfolding next_at rest_at
  key_stays e h s = next-rest (every is_space) space_run r b s ∙ rw (e, h)

  pub token_stays : r.stage ≡ Token → is_token_byte b ≡ true → Stays r b
  unfolding next_at rest_at
  token_stays e h s = next-rest (every is_space) space_run r b s ∙ rw (e, h)

  pub string_stays : r.stage ≡ Text → is_unescaped b ≡ true → Stays r b
  unfolding next_at rest_at at_if is_unescaped
  string_stays e h s = next-rest (every is_space) space_run r b s ∙ rw (e, apart is_unescaped 0x22 refl b h, apart is_unescaped 0x5c refl b h, h)

  pub binary_stays : r.stage ≡ Binary → is_base64 b ≡ true → Stays r b
  unfolding next_at rest_at at_if is_base64 is_alpha is_lower is_digit
  binary_stays e h s = next-rest (every is_space) space_run r b s ∙ rw (e, apart is_base64 0x3a refl b h, h)

module _ (b : ℕ) (r : Reading) (h : eqb b 0x20 ≡ true) where
  pub trailing_stays : r.stage ≡ Trailing → Stays r b
  unfolding next_at rest_at at_if
  trailing_stays e s = next-rest (every is_space) space_run r b s ∙ rw (e, h)

  pub front_stays : r.stage ≡ Front → Stays r b
  unfolding next_at rest_at
  front_stays e s = next-rest (every is_space) space_run r b s ∙ rw (e, h)

stays : (b : ℕ) (r : Reading) → stays_at r.stage b ≡ true → Stays r b
unfolding stays_at
stays b r h = go r.stage refl h
  where
    go : (stage : Stage) → r.stage ≡ stage → stays_at stage b ≡ true → Stays r b
    go Key e h = key_stays b r e h
    go Text e h = string_stays b r e h
    go Token e h = token_stays b r e h
    go Binary e h = binary_stays b r e h
    go Trailing e h = trailing_stays b r h e
    go Front e h = front_stays b r h e
    go Question e h = absurd (false≢true h)
    go Item e h = absurd (false≢true h)
    go Semicolon e h = absurd (false≢true h)
    go Equals e h = absurd (false≢true h)
    go Number e h = absurd (false≢true h)
    go Fraction e h = absurd (false≢true h)
    go Escape e h = absurd (false≢true h)
    go Boolean e h = absurd (false≢true h)
    go Wrong e h = absurd (false≢true h)

pub run_stays : (r : Reading) (s : List ℕ) → SameRest r s 0 (prefix_len (stays_at r.stage) s)
run_stays r [] = refl
run_stays r (b ∷ s) = go (run_stays r s) (stays_at r.stage b) refl
  where
    go : SameRest r s 0 (prefix_len (stays_at r.stage) s) → (t : Bool) → stays_at r.stage b ≡ t
        → rest_of (every is_space) r (b ∷ s) ≡ rest_of (every is_space) r (drop (cond t (1 + prefix_len (stays_at r.stage) s) 0) (b ∷ s))
    go h true e = let k : 1 + prefix_len (stays_at r.stage) s ≡ suc (prefix_len (stays_at r.stage) s) = omega arith in rw k (stays b r e s ∙ h)
    go h false e = refl

pub no_run : (stage : Stage) (s : List ℕ) → is_run stage ≡ false → 0 ≡ prefix_len (stays_at stage) s
unfolding is_run stays_at
no_run stage [] e = refl
no_run Question (b ∷ s) e = refl
no_run Item (b ∷ s) e = refl
no_run Semicolon (b ∷ s) e = refl
no_run Equals (b ∷ s) e = refl
no_run Number (b ∷ s) e = refl
no_run Fraction (b ∷ s) e = refl
no_run Escape (b ∷ s) e = refl
no_run Boolean (b ∷ s) e = refl
no_run Wrong (b ∷ s) e = refl
no_run Key (b ∷ s) e = absurd (false≢true (sym e))
no_run Text (b ∷ s) e = absurd (false≢true (sym e))
no_run Token (b ∷ s) e = absurd (false≢true (sym e))
no_run Binary (b ∷ s) e = absurd (false≢true (sym e))
no_run Trailing (b ∷ s) e = absurd (false≢true (sym e))
no_run Front (b ∷ s) e = absurd (false≢true (sym e))

pub runs_exactly : RunsExactly
unfolding is_run stays_at is_lower is_alpha is_digit is_key_start is_key_byte is_unescaped is_token_start is_token_byte is_base64
runs_exactly Key = (λ e. (97, refl), λ z. refl)
runs_exactly Text = (λ e. (97, refl), λ z. refl)
runs_exactly Token = (λ e. (97, refl), λ z. refl)
runs_exactly Binary = (λ e. (97, refl), λ z. refl)
runs_exactly Trailing = (λ e. (32, refl), λ z. refl)
runs_exactly Front = (λ e. (32, refl), λ z. refl)
runs_exactly Question = (λ e. absurd (false≢true e), λ z. absurd (false≢true z.1))
runs_exactly Item = (λ e. absurd (false≢true e), λ z. absurd (false≢true z.1))
runs_exactly Semicolon = (λ e. absurd (false≢true e), λ z. absurd (false≢true z.1))
runs_exactly Equals = (λ e. absurd (false≢true e), λ z. absurd (false≢true z.1))
runs_exactly Number = (λ e. absurd (false≢true e), λ z. absurd (false≢true z.1))
runs_exactly Fraction = (λ e. absurd (false≢true e), λ z. absurd (false≢true z.1))
runs_exactly Escape = (λ e. absurd (false≢true e), λ z. absurd (false≢true z.1))
runs_exactly Boolean = (λ e. absurd (false≢true e), λ z. absurd (false≢true z.1))
runs_exactly Wrong = (λ e. absurd (false≢true e), λ z. absurd (false≢true z.1))

-- a byte, and the bytes behind it that leave the stage as it is
module _ (v s t : List ℕ) (b : ℕ) (r q : Reading) (e : in_use v ≡ rest_of (every is_space) r s) (f : IsFirstAndRest s b t) (n : q ≡ next_of r b) where
  next_from : in_use v ≡ rest_of (every is_space) q t
  next_from = e ∙ rw (f.0, n) (next-rest (every is_space) space_run r b t)

  pub run_from : (k : ℕ) → k ≡ prefix_len (stays_at q.stage) t → in_use v ≡ rest_of (every is_space) q (take (length t - k) (drop k t))
  run_from k h =
      let all : take (length t - k) (drop k t) ≡ drop k t = take_all (length t - k) (drop k t) (omega (arith, length-drop k t)) in
      next_from ∙ rw (all, h) (run_stays q t)

  pub wrong_from : q.stage ≡ Wrong → false ≡ in_use v
  unfolding rest_at
  wrong_from w = sym (next_from ∙ rw w)

pub ends_from : (v s : List ℕ) (r : Reading) → in_use v ≡ rest_of (every is_space) r s → length s ≡ 0 → may_end r ≡ in_use v
ends_from v [] r e h = sym (spaces-end r) ∙ sym e
ends_from v (b ∷ s) r e h = absurd (let z : ⊥ = omega arith in z)
