-- The cases of request 3, as one table.
use Rattle.short_forms.specs.declared.Varint.{Varint}
use Rattle.short_forms.specs.Short.{varint_of}
use Rattle.std.specs.Prelude.{◌≡◌, ℕ, List, [], ◌∷◌, map, Option, Some, None}
use Rattle.short_forms.specs.Short.{read_short}

pub record Case : Type 0 where
  pub bytes : List ℕ
  pub answer : Option Varint

abbrev case : List ℕ → Option Varint → Case
case bytes answer = record { bytes = bytes; answer = answer }

abbrev pub cases : List Case
cases =
    case [] None
    ∷ case (0x40 ∷ []) None
    ∷ case (0x80 ∷ 0x00 ∷ []) None
    ∷ case (0xc0 ∷ 0x00 ∷ []) None
    ∷ case (0x3f ∷ []) (Some (varint_of 63 1))
    ∷ case (0x25 ∷ 0xff ∷ []) (Some (varint_of 37 1))
    ∷ case (0x40 ∷ 0x25 ∷ []) (Some (varint_of 37 2))
    ∷ case (0x7f ∷ 0xff ∷ []) (Some (varint_of 16383 2))
    ∷ []

abbrev pub CasesHold : Type 0
CasesHold = map (λ (c : Case). read_short c.bytes) cases ≡ map (λ (c : Case). c.answer) cases
