-- Calls of the writers, computed. Assumes nothing.
use Rattle.walks.proofs.Words.{refl}
use Rattle.address_writer.proofs.Terms.{num, num_from, bytes_of, largest, size_of, read_varint, encode_as, least_width, encode, refuses, write_at, longest_address_value, width_of, ahead, onwards, entries_by, entries, all_of, are_good, address_at, identified, entry_at, clear_beyond, good_entry, asks, good_requests, range_at, good_range, before, in_order, disjoint, apart, all_apart, good_ranges, good_value, well_formed, entry_bytes, range_bytes, value_bytes, little_endian, entry_of, range_of, first_of, all_in, is_whole, entries_in, ranges_in, id_fits, capsule_of, write_value, write_addresses, write_routes, write_of, AllCases, entries_of, ranges_of4, ranges_of6}
use Rattle.wire.specs.Varint.{value_of}

pub all-cases : AllCases
unfolding num num_from bytes_of largest size_of value_of read_varint encode_as least_width encode refuses write_at longest_address_value width_of ahead onwards entries_by entries all_of are_good address_at identified entry_at clear_beyond good_entry asks good_requests range_at good_range before in_order disjoint apart all_apart good_ranges good_value well_formed entry_bytes range_bytes value_bytes little_endian entry_of range_of first_of all_in is_whole entries_in ranges_in capsule_of write_value id_fits write_addresses write_routes write_of entries_of ranges_of4 ranges_of6
all-cases = (refl, refl)
