-- How a call reads small numbers. Every number has a reading.
use Rattle.std.specs.Prelude.{ℕ, Bool, cond, not, eqb}
use Rattle.opening.specs.declared.Role.{Role}
use Rattle.opening.specs.declared.Role.TheVariants.{Endpoint, Intermediary}

-- 0 is no, any other number is yes: draft, taking address capsules, semantics, response, and the three fields of a message
unfoldable pub flag_of : ℕ → Bool
flag_of n = not (eqb n 0)

unfoldable pub bit_of : Bool → ℕ
bit_of b = cond b 1 0

unfoldable pub role_of : ℕ → Role
role_of n = cond (eqb n 0) Endpoint Intermediary
