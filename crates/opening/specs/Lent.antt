-- What a feeding is refused for by the lengths of its piece and of its lent buffers: numbers 4, 18 and 5, in this order.
use Rattle.refusals.specs.declared.Refusal.{Refusal}
use Rattle.std.specs.Prelude.{ℕ, ◌+◌, Bool, true, false, cond, leb, Result, Ok, Err}
use Rattle.refusals.specs.Numbers.{gathering_too_short, addresses_too_short, output_too_short}
use Rattle.opening.specs.declared.Role.{Role}
use Rattle.opening.specs.declared.Role.TheVariants.{Endpoint, Intermediary}
use Rattle.opening.specs.declared.Opening.{Opening}
use Rattle.addresses.specs.Addresses.{longest_address_value}
use Rattle.opening.specs.Kinds.{opted}

unfoldable pub output_verdict : Role → ℕ → ℕ → Result (Unit {0}) Refusal
output_verdict Endpoint piece room = Ok tt
output_verdict Intermediary piece room = cond (leb (piece + 8) room) (Ok tt) (Err output_too_short)

unfoldable pub addresses_verdict : Bool → ℕ → Result (Unit {0}) Refusal → Result (Unit {0}) Refusal
addresses_verdict true addresses v = cond (leb longest_address_value addresses) v (Err addresses_too_short)
addresses_verdict false addresses v = v

unfoldable pub lent_verdict : Opening → ℕ → ℕ → ℕ → ℕ → Result (Unit {0}) Refusal
lent_verdict op piece gathering addresses output =
    cond (leb op.limit gathering)
    (addresses_verdict (opted op) addresses (output_verdict op.role piece output))
    (Err gathering_too_short)
