-- The value of the Capsule-Protocol field (RFC 9297, section 3.4; document 02, request 5).
use Rattle.refusals.specs.declared.Refusal.{Refusal}
use Rattle.std.specs.Prelude.{Bool, true, false}
use Rattle.std.specs.Prelude.{ℕ, cond, List, leb, length, Result, Ok, Err}
use Rattle.refusals.specs.Numbers.{field_too_long}
use Rattle.capsule_protocol.specs.Rules.{Rule, every, ◌then◌}
use Rattle.capsule_protocol.specs.Bytes.{is_space}
use Rattle.capsule_protocol.specs.Items.{true_item}

-- an item that is true; spaces at both ends are discarded (RFC 8941, section 4.2)
unfoldable pub in_use : Rule
in_use = every is_space then true_item then every is_space

-- whatever is no such item counts as absent; a value longer than 1,024 bytes is refused
unfoldable pub field_of : List ℕ → Result Bool Refusal
field_of value = cond (leb (length value) 1024) (cond (in_use value) (Ok true) (Ok false)) (Err field_too_long)
