-- The long forms of a varint: four and eight bytes (RFC 9000, section 16).
use Rattle.short_forms.specs.declared.Varint.{Varint}
use Rattle.std.specs.Prelude.{ℕ, cond, List, leb, Option, Some, None}
use Rattle.wire.specs.Varint.{read_varint}

unfoldable pub long_of : Option Varint → Option Varint
long_of None = None
long_of (Some read) = cond (leb read.size 2) None (Some read)

-- what is read, if it has more than two bytes
unfoldable pub read_long : List ℕ → Option Varint
read_long s = long_of (read_varint s)
