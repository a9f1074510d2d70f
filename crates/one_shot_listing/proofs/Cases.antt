-- The cases on listings, computed. Assumes nothing.
use Rattle.walks.proofs.Words.{refl}
use Rattle.one_shot_listing.proofs.Terms.{num_from, num, size_of, value_of, read_varint, front_by, capsule_at, cut_by, parts_by, header_bytes, ending_of, listing_of, Cases}

pub cases : Cases
unfolding listing_of header_bytes ending_of parts_by cut_by front_by capsule_at read_varint size_of value_of num num_from
cases = refl
