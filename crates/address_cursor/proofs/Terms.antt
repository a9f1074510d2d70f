-- Definitions, and laws of the crates below, that the proofs here use, passed on: one `use` in place of many.
pub use Rattle.address_cursor.specs.{Cases.AddressesHanded, Cases.RangesHanded, Claims.HandsOut, Claims.SteppedExactly, Handing.Answer, Handing.behind, declared.Address.Address, declared.AddressRange.AddressRange, declared.Cursor.Cursor}
unfoldable pub use Rattle.address_cursor.specs.{Handing.address_of, Handing.answer_at, Handing.answer_for, Handing.collected, Handing.handed_from, Handing.next_address, Handing.next_range, Handing.padded, Handing.range_of}
pub use Rattle.addresses.proofs.{Lists.entries-end, Lists.entries_malformed, Lists.entries_next, Lists.map-ahead, Reading.entry_front, Reading.entry_shrinks, Reading.range_front, Reading.range_shrinks}
pub use Rattle.addresses.specs.{Addresses.Step, Addresses.done, Addresses.malformed, Addresses.next, Places.EntryRead, Places.Inside, Places.RangeInside, Places.RangeRead, declared.Malformed.Malformed}
unfoldable pub use Rattle.addresses.specs.{Addresses.address_at, Addresses.entries, Addresses.entry_at, Addresses.identified, Addresses.range_at, Addresses.width_of, Places.entry_lent, Places.placed, Places.range_in, Places.range_placed}
pub use Rattle.wire.proofs.{Numbers.bytes_drop, Numbers.bytes_each, Numbers.bytes_take, Numbers.bytes_of-num}
pub use Rattle.wire.specs.{Bytes.Bytes}
unfoldable pub use Rattle.wire.specs.{Bytes.bytes_of, Bytes.num, Bytes.num_from, Varint.read_varint, Varint.size_of, Varint.value_of}
