-- What holds of judging: each claim is a type here, and is proved in proofs/ under its name in lower case with dashes.
use Rattle.short_forms.specs.Short.{varint_of}
use Rattle.std.specs.Prelude.{ℕ, ◌≤◌, ◌<◌, ◌≡◌, true, List, [], length, get_or, drop, Some, None, Ok}
use Rattle.wire.specs.declared.units.Quarter.{Quarter}
use Rattle.wire.specs.Varint.{read_varint}
use Rattle.stream_records.specs.Records.{blank, holds}
use Rattle.stream_records.specs.Tables.{Table, entry_of}
use Rattle.judging.specs.declared.judge.Judged.TheVariants as judged
use Rattle.judging.specs.Judging.{judged_of, rule_of, quarter_in, place_in, entry_place, payload_of}

-- where a quarter was read every rule answers it, and no other; where none was read none is answered
abbrev pub QuarterRight : Type 0
QuarterRight =
    (t : Table) (streams limit : ℕ) (frame : List ℕ)
    → ((q size : ℕ) → read_varint frame ≡ Some (varint_of q size)
    → ((p : ℕ) → quarter_in (judged_of t streams limit frame) ≡ Some p → q ≡ p)
    × ((n : ℕ) → rule_of (judged_of t streams limit frame) ≡ Some n → quarter_in (judged_of t streams limit frame) ≡ Some q))
    × (read_varint frame ≡ None → quarter_in (judged_of t streams limit frame) ≡ None)

-- a place is answered by rules 5 to 8, and the record there is a used one of the quarter that was read
abbrev pub PlaceRight : Type 0
PlaceRight =
    (t : Table) (streams limit : ℕ) (frame : List ℕ)
    → ((q size : ℕ) → read_varint frame ≡ Some (varint_of q size)
    → ((place : ℕ) → place_in (judged_of t streams limit frame) ≡ Some place → (holds q (get_or t place blank) ≡ true) × (place < length t))
    × ((n : ℕ) → rule_of (judged_of t streams limit frame) ≡ Some n → 5 ≤ n → place_in (judged_of t streams limit frame) ≡ entry_place (entry_of q t)))
    × (read_varint frame ≡ None → place_in (judged_of t streams limit frame) ≡ None)

-- the payload is what follows the quarter, in whatever form that came, where it is delivered; and empty for every other answer and every refusal
abbrev pub PayloadExactly : Type 0
PayloadExactly =
    (t : Table) (streams limit : ℕ) (frame : List ℕ)
    → ((p : Quarter) (place q size : ℕ) → judged_of t streams limit frame ≡ Ok (judged.Delivered p place) → read_varint frame ≡ Some (varint_of q size) → payload_of t streams limit frame ≡ drop size frame)
    × (((p : Quarter) (place : ℕ) → judged_of t streams limit frame ≡ Ok (judged.Delivered p place) → ⊥) → payload_of t streams limit frame ≡ [])
