-- Numbers as decimal text, in ASCII.
use Rattle.std.specs.Prelude.{ℕ, zero, suc, ◌+◌, ◌-◌, ◌*◌, ◌/◌, ◌%◌, cond, List, [], ◌∷◌, ◌++◌, ltb}

-- the last digit of a number
unfoldable pub last_digit : ℕ → ℕ
last_digit n = 48 + n % 10

-- at most `most` digits: those of a tenth of the number, if it is not below 10, and the last
unfoldable pub decimal_by : ℕ → ℕ → List ℕ
decimal_by zero n = []
decimal_by (suc most) n = cond (ltb n 10) [] (decimal_by most (n / 10)) ++ (last_digit n ∷ [])

-- the decimal digits of a number; it never has more digits than this
unfoldable pub decimal : ℕ → List ℕ
decimal n = decimal_by (suc n) n

-- the number that goes on from n by the digits of s
unfoldable pub value_from : ℕ → List ℕ → ℕ
value_from n [] = n
value_from n (c ∷ s) = value_from (n * 10 + (c - 48)) s

unfoldable pub value : List ℕ → ℕ
value s = value_from 0 s
