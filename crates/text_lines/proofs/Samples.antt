-- Document 01's lines, and where a line goes. Assumes nothing.
use Rattle.walks.proofs.Words.{refl}
use Rattle.text_lines.proofs.Terms.{text, last_digit, decimal_by, decimal, one_number, two_numbers, limit_line, report_line, end_line, write_at, ListingOfS, OtherLines, Placed}

pub listing_of_s : ListingOfS
unfolding text last_digit decimal_by decimal one_number two_numbers limit_line report_line end_line
listing_of_s = refl

pub other_lines_lem : OtherLines
unfolding text last_digit decimal_by decimal one_number two_numbers limit_line report_line end_line
other_lines_lem = refl

pub placed : Placed
unfolding text write_at
placed = refl
