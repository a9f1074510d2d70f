-- Definitions, and laws of the crates below, that the proofs here use, passed on: one `use` in place of many.
pub use Rattle.addresses.specs.{Addresses.Entry, Addresses.Range, Addresses.Step, Addresses.done, Addresses.malformed, Addresses.next, Cases.AllValues, Cases.Types, Cases.WidthsRead, Claims.BitsBeyond, Claims.Decides, Claims.Each, Claims.EntriesDecide, Claims.EveryValueRead, Claims.IsBytesOf, Claims.IsEntry, Claims.IsRange, Claims.NothingLost, Claims.ReadsBack, Claims.SizesBeside, Claims.WrittenShortest, Places.EntryRead, Places.Inside, Places.RangeRead, Places.some_entry, Sizes.SizedEntry, declared.Malformed.Malformed}
unfoldable pub use Rattle.addresses.specs.{Addresses.address_at, Addresses.ahead, Addresses.all_apart, Addresses.all_of, Addresses.apart, Addresses.are_good, Addresses.asks, Addresses.before, Addresses.clear_beyond, Addresses.disjoint, Addresses.entries, Addresses.entries_by, Addresses.entry_at, Addresses.good_entry, Addresses.good_range, Addresses.good_ranges, Addresses.good_requests, Addresses.good_value, Addresses.identified, Addresses.in_order, Addresses.is_address_type, Addresses.longest_address_value, Addresses.onwards, Addresses.range_at, Addresses.well_formed, Addresses.width_of, Cases.many, Cases.short, Encoding.entry_bytes, Encoding.range_bytes, Encoding.value_bytes, Places.entry_lent, Places.placed, Places.range_in, Places.range_placed, Sizes.sized_at, Sizes.sized_bytes, Sizes.sized_for}
pub use Rattle.wire.proofs.{Encoding.every_form_read, Numbers.bytes_drop, Numbers.bytes_take, Numbers.bytes_of-num, Numbers.length-bytes_of, Numbers.num-bytes_of, Numbers.num-first, Numbers.num_lt, Numbers.num_from_shift, Numbers.pow_256, Reading.no_whole_nil, Reading.read-less, Reading.read_whole, Reading.reads, Reading.size_of-at, Reading.size_of_pos, Reading.split, Reading.whole_incomplete, Reading.whole_same}
pub use Rattle.short_forms.specs.{declared.Varint.Varint, Short.varint_of}
pub use Rattle.wire.specs.{Bytes.Bytes}
unfoldable pub use Rattle.wire.specs.{Bytes.bytes_of, Bytes.num, Bytes.num_from, Varint.encode, Varint.encode_as, Varint.read_varint, Varint.size_of, Varint.value_of}
