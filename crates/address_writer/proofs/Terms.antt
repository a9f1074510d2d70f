-- Definitions, and laws of the crates below, that the proofs here use, passed on: one `use` in place of many.
pub use Rattle.address_rows.proofs.{Putting.address-length, Putting.gathers, Putting.put_number, Putting.put_then, Putting.size_most, Rows.id_fits_lem, Rows.id_at, Rows.ids, Rows.ids_all, Rows.ids-end, Rows.ids_large, Rows.ids_on}
pub use Rattle.address_rows.specs.{Putting.Gathered, Putting.Put, Rows.entry_size, Rows.range_size}
unfoldable pub use Rattle.address_rows.specs.{Putting.value_in, Rows.all_in, Rows.entries_in, Rows.entry_of, Rows.first_of, Rows.id_fits, Rows.is_whole, Rows.little_endian, Rows.range_of, Rows.ranges_in}
pub use Rattle.address_writer.specs.{Cases.AllCases, Claims.AddressCapsule, Claims.Answered, Claims.DeliveredTo, Claims.EveryEntry, Claims.Form, Claims.HeaderShortest, Claims.LargeId, Claims.LargeIdExactly, Claims.OneCapsule, Claims.ReadBackAs, Claims.ReadsBack, Claims.ReadsBackAs, Claims.RefusedExactly, Claims.RefusedNothing, Claims.Standing, Claims.WholeExactly, Claims.WritableExactly, Claims.WrittenStands, Claims.address_assign, Claims.address_request, Claims.addresses, Claims.alone, Claims.ranges, Claims.record_size, Claims.route_advertisement}
unfoldable pub use Rattle.address_writer.specs.{Cases.entries_of, Cases.ranges_of4, Cases.ranges_of6, Claims.all_known, Claims.entry_fits, Claims.has_large_id, Claims.is_writable, Claims.keeps_rules, Claims.range_fits, Claims.type_of, Claims.value_of, Claims.write_of, Writer.capsule_of, Writer.write_addresses, Writer.write_routes, Writer.write_value}
pub use Rattle.addresses.proofs.{Lists.Shrinks, Lists.both, Lists.impossible, ReadBack.entry_read, ReadBack.known, ReadBack.range-read, ReadBack.value_read, Reading.entry_shrinks, Reading.range_shrinks}
pub use Rattle.addresses.specs.{Addresses.Entry, Addresses.Range, Addresses.assign, Addresses.done, Addresses.malformed, Addresses.next, Addresses.request, Claims.Each}
unfoldable pub use Rattle.addresses.specs.{Addresses.address_at, Addresses.ahead, Addresses.all_apart, Addresses.all_of, Addresses.apart, Addresses.are_good, Addresses.asks, Addresses.before, Addresses.clear_beyond, Addresses.disjoint, Addresses.entries, Addresses.entries_by, Addresses.entry_at, Addresses.good_entry, Addresses.good_range, Addresses.good_ranges, Addresses.good_requests, Addresses.good_value, Addresses.identified, Addresses.in_order, Addresses.is_address_type, Addresses.longest_address_value, Addresses.onwards, Addresses.range_at, Addresses.well_formed, Addresses.width_of, Encoding.entry_bytes, Encoding.range_bytes, Encoding.value_bytes}
pub use Rattle.capsule.specs.{Grammar.parts}
unfoldable pub use Rattle.capsule.specs.{Book.reported}
pub use Rattle.capsule_laws.proofs.{Plain.by_the_grammar, Written.one_written, Written.written-length}
pub use Rattle.copying.proofs.{Laws.copied}
pub use Rattle.copying.specs.{Copy.copying}
unfoldable pub use Rattle.copying.specs.{Copy.copy}
pub use Rattle.opening.specs.{declared.Kind.TheVariants.Address, declared.Opening.Opening, declared.Report.TheVariants.AddressDelivered}
unfoldable pub use Rattle.opening.specs.{Kinds.extent_by, Kinds.extent_of, Kinds.judged, Kinds.kind_of, Kinds.opted, Kinds.report_by, Kinds.report_of}
pub use Rattle.refusals.specs.{Numbers.malformed_to_write, Numbers.number_too_large, Numbers.output_too_short, declared.Refusal.Refusal}
pub use Rattle.wire.proofs.{Encoding.length-encode, Encoding.read_back, Encoding.shortest, Numbers.bytes_drop, Numbers.bytes_take, Numbers.num_lt}
pub use Rattle.wire.specs.{Bytes.Bytes, Writing.Writing, Writing.writing}
unfoldable pub use Rattle.wire.specs.{Bytes.bytes_of, Bytes.num, Bytes.num_from, Varint.encode, Varint.encode_as, Varint.largest, Varint.least_size, Varint.least_width, Varint.read_varint, Varint.size_of, Writing.refuses, Writing.write_at, Writing.write_varint}
