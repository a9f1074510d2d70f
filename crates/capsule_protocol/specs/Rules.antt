-- Rules in the manner of ABNF (RFC 5234): a rule is a set of byte strings, given by its test.
use Rattle.std.specs.Prelude.{ℕ, Bool, true, false, ◌&&◌, ◌||◌, List, [], ◌∷◌, leb, length}

abbrev pub Rule : Type 0
Rule = List ℕ → Bool

-- a set of bytes
abbrev pub Class : Type 0
Class = ℕ → Bool

infixr 20 ◌then◌
infixr 20 ◌then_many◌
infixr 10 ◌or◌
-- the empty string alone
unfoldable pub empty : Rule
empty [] = true
empty (b ∷ s) = false

-- one byte of a class
unfoldable pub one : Class → Rule
one p [] = false
one p (b ∷ s) = p b && empty s

-- any number of bytes of a class: `*p`
unfoldable pub every : Class → Rule
every p [] = true
every p (b ∷ s) = p b && every p s

-- one to n bytes of a class: `1*n p`
unfoldable pub up_to : ℕ → Class → Rule
up_to n p s = every p s && (leb 1 (length s) && leb (length s) n)

-- either of two: `x / y`
abbrev pub ◌or◌ : Rule → Rule → Rule
(x or y) s = x s || y s

-- present or not: `[x]`
abbrev pub optional : Rule → Rule
optional x = empty or x

-- one after the other: `x y`. The string is cut somewhere, the front is in x and the rest in y
unfoldable pub ◌then◌ : Rule → Rule → Rule
(x then y) [] = x [] && y []
(x then y) (b ∷ s) = (x [] && y (b ∷ s)) || ((λ t. x (b ∷ t)) then y) s

-- x and then any number of y: before each byte, x goes on, or it is whole and a y begins
unfoldable pub ◌then_many◌ : Rule → Rule → Rule
(x then_many y) [] = x []
(x then_many y) (b ∷ s) = (x [] && ((λ t. y (b ∷ t)) then_many y) s) || ((λ t. x (b ∷ t)) then_many y) s

-- any number of x: `*x`
abbrev pub many : Rule → Rule
many x = empty then_many x
