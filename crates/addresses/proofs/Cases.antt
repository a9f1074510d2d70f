-- The cases, by computation. Assumes nothing.
use Rattle.walks.proofs.Words.{refl}
use Rattle.addresses.proofs.Terms.{num, num_from, size_of, value_of, read_varint, is_address_type, width_of, ahead, onwards, entries_by, entries, all_of, are_good, address_at, identified, entry_at, clear_beyond, good_entry, asks, good_requests, range_at, good_range, before, in_order, disjoint, apart, all_apart, good_ranges, good_value, longest_address_value, well_formed, sized_for, sized_at, AllValues, Types, many, short, WidthsRead}

pub all-values : AllValues
unfolding num num_from size_of value_of read_varint width_of ahead onwards entries_by entries all_of are_good address_at identified entry_at clear_beyond good_entry asks good_requests range_at good_range before in_order disjoint apart all_apart good_ranges good_value longest_address_value well_formed many short
all-values = refl

pub types : Types
unfolding is_address_type
types = refl

pub widths_read : WidthsRead
unfolding num num_from size_of value_of read_varint width_of ahead onwards entries_by entries address_at identified entry_at sized_for sized_at
widths_read = refl
