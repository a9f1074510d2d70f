-- What the listing program prints (document 01, "Bench cases").
use Rattle.refusals.specs.declared.Refusal.{Refusal}
use Rattle.capsule.specs.declared.reader.Ending.{Ending}
use Rattle.capsule.specs.declared.reader.Ending.TheVariants.{Clean, Truncated}
use Rattle.std.specs.Prelude.{ℕ, List, ◌++◌, Result, Ok, Err}
use Rattle.opening.specs.declared.Report.{Report}
use Rattle.opening.specs.declared.Report.TheVariants.{Delivered, Dropped, Skipped, Passed, AddressDelivered, Malformed}
use Rattle.text_bytes.specs.Text.{text}
use Rattle.text_lines.specs.Decimal.{decimal}

-- a word and a number
unfoldable pub one_number : List ℕ → ℕ → List ℕ
one_number word n = word ++ (decimal n ++ text "\n")

-- a word and two numbers
unfoldable pub two_numbers : List ℕ → ℕ → ℕ → List ℕ
two_numbers word m n = word ++ ((decimal m ++ text " ") ++ (decimal n ++ text "\n"))

-- the first line
unfoldable pub limit_line : ℕ → List ℕ
limit_line n = one_number (text "limit ") n

-- the line of a capsule that has ended; `pass`, `address` and `malformed` are not in document 01, whose listing program is an endpoint
-- that takes no address capsules
unfoldable pub report_line : Report → List ℕ
report_line (Delivered n) = one_number (text "datagram ") n
report_line (Dropped n) = one_number (text "drop ") n
report_line (Skipped t n) = two_numbers (text "skip ") t n
report_line (Passed t n) = two_numbers (text "pass ") t n
report_line (AddressDelivered t n) = two_numbers (text "address ") t n
report_line (Malformed t n) = two_numbers (text "malformed ") t n

-- the last line; `end refused` is not in document 01, whose listing program comes to no refusal
unfoldable pub end_line : Result Ending Refusal → List ℕ
end_line (Ok Clean) = text "end clean\n"
end_line (Ok Truncated) = text "end truncated\n"
end_line (Err r) = one_number (text "end refused ") r.0

-- no line is longer, since a number of 64 bits has at most 20 digits
abbrev pub longest : ℕ
longest = 64
