-- For the proofs of the code alone: how far a value has been read, and what the grammar still asks for there.
use Rattle.std.specs.Prelude.{ℕ, suc, ◌+◌, Bool, true, false, cond, ◌&&◌, ◌≡◌, List, ◌∷◌, leb, ltb, length, drop}
use Rattle.capsule_protocol.specs.declared.stages.Stage.{Stage}
use Rattle.capsule_protocol.specs.declared.stages.Stage.TheVariants.{Front, Question, Item, Trailing, Semicolon, Key, Equals, Number, Fraction, Text, Escape, Token, Binary, Boolean, Wrong}
use Rattle.capsule_protocol.specs.declared.stages.Reading.{Reading}
use Rattle.capsule_protocol.specs.Rules.{Rule, Class, one, every, up_to, ◌or◌, optional, ◌then◌, many}
use Rattle.capsule_protocol.specs.Bytes.{is, is_space, is_digit, is_key_start, is_key_byte, is_unescaped, is_escapable, is_token_start, is_token_byte, is_base64, is_bit}
use Rattle.capsule_protocol.specs.Items.{chr, bare_item, key, parameters}

-- ---- one byte more

abbrev pub reading : Stage → ℕ → Reading
reading stage digits = record { stage = stage; digits = digits }

abbrev pub at : Stage → Reading
at stage = reading stage 0

unfoldable pub at_if : Bool → Stage → Reading
at_if fits stage = cond fits (at stage) (at Wrong)

unfoldable pub within : ℕ → ℕ → Bool
within digits most = leb 1 digits && leb digits most

unfoldable pub one_more : Stage → ℕ → ℕ → Reading
one_more stage digits most = cond (ltb digits most) (reading stage (suc digits)) (at Wrong)

unfoldable pub after_item : ℕ → Reading
after_item b = cond (is 0x3b b) (at Semicolon) (at_if (is_space b) Trailing)

unfoldable pub after_digits : ℕ → ℕ → ℕ → Reading
after_digits b digits most = cond (within digits most) (after_item b) (at Wrong)

unfoldable pub first_of_bare_item : ℕ → Reading
first_of_bare_item b =
    cond (is_digit b) (reading Number 1)
    (cond (is 0x2d b) (at Number)
    (cond (is 0x22 b) (at Text)
    (cond (is 0x3a b) (at Binary)
    (cond (is 0x3f b) (at Boolean)
    (at_if (is_token_start b) Token)))))

unfoldable pub next_at : Stage → ℕ → ℕ → Reading
next_at Front n b = cond (is_space b) (at Front) (at_if (is 0x3f b) Question)
next_at Question n b = at_if (is 0x31 b) Item
next_at Item n b = after_item b
next_at Trailing n b = at_if (is_space b) Trailing
next_at Semicolon n b = cond (is_space b) (at Semicolon) (at_if (is_key_start b) Key)
next_at Key n b = cond (is_key_byte b) (at Key) (cond (is 0x3d b) (at Equals) (after_item b))
next_at Equals n b = first_of_bare_item b
next_at Number n b = cond (is_digit b) (one_more Number n 15) (cond (is 0x2e b) (at_if (within n 12) Fraction) (after_digits b n 15))
next_at Fraction n b = cond (is_digit b) (one_more Fraction n 3) (after_digits b n 3)
next_at Text n b = cond (is 0x22 b) (at Item) (cond (is 0x5c b) (at Escape) (at_if (is_unescaped b) Text))
next_at Escape n b = at_if (is_escapable b) Text
next_at Token n b = cond (is_token_byte b) (at Token) (after_item b)
next_at Binary n b = cond (is 0x3a b) (at Item) (at_if (is_base64 b) Binary)
next_at Boolean n b = at_if (is_bit b) Item
next_at Wrong n b = at Wrong

abbrev pub next_of : Reading → ℕ → Reading
next_of r b = next_at r.stage r.digits b

-- ---- what the grammar still asks for, where x comes after the parameters

-- to the end of a run of bytes of a class of which n came already: one to `most` in all
unfoldable pub up_to_after : ℕ → ℕ → Class → Rule
up_to_after n most p s = every p s && (leb 1 (length s + n) && leb (length s + n) most)

unfoldable pub rest_at : Rule → Stage → ℕ → Rule
rest_at x Front n = every is_space then one (is 0x3f) then one (is 0x31) then parameters then x
rest_at x Question n = one (is 0x31) then parameters then x
rest_at x Item n = parameters then x
rest_at x Trailing n = λ s. x (0x20 ∷ s)
rest_at x Semicolon n = every is_space then key then optional (one (is 0x3d) then bare_item) then parameters then x
rest_at x Key n = every is_key_byte then optional (one (is 0x3d) then bare_item) then parameters then x
rest_at x Equals n = bare_item then parameters then x
rest_at x Number n = (up_to_after n 15 is_digit then parameters then x) or (up_to_after n 12 is_digit then one (is 0x2e) then up_to 3 is_digit then parameters then x)
rest_at x Fraction n = up_to_after n 3 is_digit then parameters then x
rest_at x Text n = many chr then one (is 0x22) then parameters then x
rest_at x Escape n = one is_escapable then many chr then one (is 0x22) then parameters then x
rest_at x Token n = every is_token_byte then parameters then x
rest_at x Binary n = every is_base64 then one (is 0x3a) then parameters then x
rest_at x Boolean n = one is_bit then parameters then x
rest_at x Wrong n = λ s. false

abbrev pub rest_of : Rule → Reading → Rule
rest_of x r = rest_at x r.stage r.digits

unfoldable pub may_end_at : Stage → ℕ → Bool
may_end_at Item n = true
may_end_at Trailing n = true
may_end_at Key n = true
may_end_at Token n = true
may_end_at Number n = within n 15
may_end_at Fraction n = within n 3
may_end_at Front n = false
may_end_at Question n = false
may_end_at Semicolon n = false
may_end_at Equals n = false
may_end_at Text n = false
may_end_at Escape n = false
may_end_at Binary n = false
may_end_at Boolean n = false
may_end_at Wrong n = false

abbrev pub may_end : Reading → Bool
may_end r = may_end_at r.stage r.digits

-- the bytes that the code passes over at once: they leave the stage as it is
unfoldable pub stays_at : Stage → Class
stays_at Key b = is_key_byte b
stays_at Text b = is_unescaped b
stays_at Token b = is_token_byte b
stays_at Binary b = is_base64 b
stays_at Trailing b = is_space b
stays_at Front b = is_space b
stays_at Question b = false
stays_at Item b = false
stays_at Semicolon b = false
stays_at Equals b = false
stays_at Number b = false
stays_at Fraction b = false
stays_at Escape b = false
stays_at Boolean b = false
stays_at Wrong b = false

-- the stages that a run of bytes leaves as they are: in every other, `stays_at` holds of no byte
unfoldable pub is_run : Stage → Bool
is_run Key = true
is_run Text = true
is_run Token = true
is_run Binary = true
is_run Trailing = true
is_run Front = true
is_run Question = false
is_run Item = false
is_run Semicolon = false
is_run Equals = false
is_run Number = false
is_run Fraction = false
is_run Escape = false
is_run Boolean = false
is_run Wrong = false

-- a byte that leaves what is asked for as it is
abbrev pub Stays : Reading → ℕ → Type 0
Stays r b = (s : List ℕ) → rest_of (every is_space) r (b ∷ s) ≡ rest_of (every is_space) r s

-- at two places of a value the same is asked for
abbrev pub SameRest : Reading → List ℕ → ℕ → ℕ → Type 0
SameRest r v i j = rest_of (every is_space) r (drop i v) ≡ rest_of (every is_space) r (drop j v)
