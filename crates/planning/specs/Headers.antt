-- A short header at the front of a piece: what the fast path reads.
use Rattle.std.specs.Prelude.{ℕ, ◌-◌, ◌*◌, ◌+◌, cond, ◌&&◌, List, length, get_or, leb, ltb, eqb, Option, Some, None}
use Rattle.wire.specs.declared.partial.Partial.{Partial}
use Rattle.planning.specs.declared.Header.{Header}

abbrev pub short_head : ℕ → ℕ → ℕ → Header
short_head at ctype size = record { at = at; ctype = ctype; size = size }

-- a type of one byte and a length of one or two, among at least three bytes
unfoldable pub short_header : List ℕ → Option Header
short_header p =
    let t = get_or p 0 0 in
    let n = get_or p 1 0 in
    cond (leb 3 (length p)) (cond (leb t 63) (cond (ltb n 64) (Some (short_head 2 t n)) (cond (leb n 127) (Some (short_head 3 t ((n - 64) * 256 + get_or p 2 0))) None)) None) None

-- only a type that starts in the list is looked at
unfoldable pub first_header : Partial → List ℕ → Option Header
first_header part p = cond (eqb part.have 0 && eqb part.raw 0) (short_header p) None
