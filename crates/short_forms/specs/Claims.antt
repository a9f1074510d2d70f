-- What holds of the definition: each claim is a type here, and is proved in proofs/ under the name given.
use Rattle.std.specs.Prelude.{◌≡◌, ℕ, List, take}
use Rattle.short_forms.specs.Short.{read_short}

-- by the first two bytes alone (proofs/Short.antt)
abbrev pub TwoBytesOnly : Type 0
TwoBytesOnly = (s : List ℕ) → read_short (take 2 s) ≡ read_short s
