-- What holds of the definitions. Each claim is a type here, and is proved in proofs/Decimals.antt, proofs/Apart.antt or proofs/Samples.antt.
use Rattle.refusals.specs.declared.Refusal.{Refusal}
use Rattle.capsule.specs.declared.reader.Ending.{Ending}
use Rattle.capsule.specs.declared.reader.Ending.TheVariants.{Clean, Truncated}
use Rattle.std.specs.Prelude.{◌≡◌, ℕ, ◌≤◌, ◌<◌, List, [], ◌∷◌, ◌++◌, map, get_or, Some, None, Result, Ok, Err}
use Rattle.refusals.specs.Numbers.{refusal}
use Rattle.opening.specs.declared.Report.{Report}
use Rattle.opening.specs.declared.Report.TheVariants.{Delivered, Dropped, Skipped, Passed, AddressDelivered, Malformed}
use Rattle.text_bytes.specs.Text.{text}
use Rattle.text_lines.specs.Lines.{limit_line, report_line, end_line}
use Rattle.text_lines.specs.Decimal.{decimal, value}
use Rattle.text_lines.specs.Writing.{Writing, writing, write_at}

-- the digits read back are the number
abbrev pub ReadBack : Type 0
ReadBack = (n : ℕ) → value (decimal n) ≡ n

abbrev pub AllDigits : List ℕ → Type 0
AllDigits [] = Unit {0}
AllDigits (c ∷ s) = (48 ≤ c) × (c ≤ 57) × AllDigits s

abbrev pub DigitsOnly : Type 0
DigitsOnly = (n : ℕ) → AllDigits (decimal n)

-- no zero stands in front, but in the text of 0
abbrev pub NoLeadingZero : Type 0
NoLeadingZero = (decimal 0 ≡ text "0") × ((n : ℕ) → 0 < n → 48 < get_or (decimal n) 0 0)

-- what a line can say
pub data Said : Type 0 where
  limit : ℕ → Said
  report : Report → Said
  end : Result Ending Refusal → Said

abbrev pub line_of : Said → List ℕ
line_of (limit n) = limit_line n
line_of (report r) = report_line r
line_of (end a) = end_line a

-- document 01's listing of stream S, whole, its other two lines, and the four that it does not have
abbrev pub ListingOfS : Type 0
ListingOfS =
    limit_line 1200 ++ report_line (Delivered 3) ++ report_line (Skipped 23 0) ++ report_line (Skipped 64 2) ++ report_line (Delivered 0) ++ end_line (Ok Clean)
    ≡ text "limit 1200\ndatagram 3\nskip 23 0\nskip 64 2\ndatagram 0\nend clean\n"

-- a line, and its text
abbrev pub other_lines : List (Said × List ℕ)
other_lines =
    (report (Dropped 1201), text "drop 1201\n")
    ∷ (end (Ok Truncated), text "end truncated\n")
    ∷ (report (Passed 23 5), text "pass 23 5\n")
    ∷ (report (AddressDelivered 1 1024), text "address 1 1024\n")
    ∷ (report (Malformed 2 0), text "malformed 2 0\n")
    ∷ (end (Err (refusal 2)), text "end refused 2\n")
    ∷ []

abbrev pub OtherLines : Type 0
OtherLines = map (λ c. line_of c.0) other_lines ≡ map (λ c. c.1) other_lines

-- lines that say different things differ
abbrev pub LinesDiffer : Type 0
LinesDiffer = (a b : Said) → line_of a ≡ line_of b → a ≡ b

-- a line goes to its place, up to the output's end; where it does not fit nothing changes: an output, a place, and what comes of `ab`
abbrev pub places : List (List ℕ × ℕ × Writing)
places =
    (9 ∷ 9 ∷ 9 ∷ 9 ∷ [], 1, writing (Some 2) (9 ∷ 97 ∷ 98 ∷ 9 ∷ []))
    ∷ (9 ∷ 9 ∷ 9 ∷ [], 1, writing (Some 2) (9 ∷ 97 ∷ 98 ∷ []))
    ∷ (9 ∷ 9 ∷ 9 ∷ [], 2, writing None (9 ∷ 9 ∷ 9 ∷ []))
    ∷ []

abbrev pub Placed : Type 0
Placed = map (λ c. write_at (text "ab") c.0 c.1) places ≡ map (λ c. c.2) places
