-- Definitions, and laws of the crates below, that the proofs here use, passed on: one `use` in place of many.
pub use Rattle.address_rows.specs.{Putting.Gathered, Putting.Gathering, Putting.Put, Putting.gathering}
unfoldable pub use Rattle.address_rows.specs.{Putting.entry_put, Putting.gather, Putting.id_bytes, Putting.put_records, Putting.record_bytes, Putting.size_in, Putting.value_in, Rows.all_in, Rows.entries_in, Rows.entry_of, Rows.first_of, Rows.id_fits, Rows.little_endian, Rows.range_of, Rows.ranges_in}
pub use Rattle.addresses.proofs.{Lists.both, Lists.impossible}
pub use Rattle.addresses.specs.{Addresses.Entry}
unfoldable pub use Rattle.addresses.specs.{Addresses.all_of, Addresses.width_of, Encoding.entry_bytes, Encoding.range_bytes, Encoding.value_bytes}
pub use Rattle.wire.proofs.{Encoding.least, Encoding.length-encode, Encoding.write_fits, Encoding.write_large, Numbers.bytes_drop, Numbers.bytes_each, Numbers.bytes_take, Numbers.bytes_of-num, Numbers.sets-append}
pub use Rattle.wire.specs.{Bytes.Bytes, Writing.Writing, Writing.writing}
pub use Rattle.refusals.specs.{declared.Refusal.Refusal}
unfoldable pub use Rattle.wire.specs.{Bytes.bytes_of, Bytes.num, Varint.encode, Varint.largest, Varint.least_size, Writing.write_varint}
