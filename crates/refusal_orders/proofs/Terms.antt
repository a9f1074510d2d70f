-- Definitions, and laws of the crates below, that the proofs here use, passed on: one `use` in place of many.
unfoldable pub use Rattle.address_rows.specs.{Rows.entries_in, Rows.id_fits, Rows.is_whole}
pub use Rattle.address_writer.proofs.{Conditions.large_id_exactly, Counting.whole_exactly}
pub use Rattle.address_writer.specs.{Claims.AddressCapsule, Claims.LargeId, Claims.address_assign, Claims.address_request, Claims.route_advertisement}
unfoldable pub use Rattle.address_writer.specs.{Claims.has_large_id, Claims.type_of, Claims.value_of, Claims.write_of, Writer.capsule_of, Writer.write_addresses, Writer.write_routes, Writer.write_value}
pub use Rattle.addresses.specs.{Addresses.assign, Addresses.request, Addresses.route}
unfoldable pub use Rattle.addresses.specs.{Addresses.all_of, Addresses.longest_address_value, Addresses.well_formed}
pub use Rattle.capsule.specs.{Calls.Lent, declared.reader.Closed.Closed, declared.reader.Reader.Reader}
unfoldable pub use Rattle.capsule.specs.{Reader.close_of, Reader.end_at, Reader.fed_by, Reader.feed_by, Reader.feed_of, Reader.is_makeable, Reader.is_opening, Reader.open_of, Reader.take_of, Reader.verdict_of}
pub use Rattle.capsule_laws.proofs.{Makeable.makeable_exactly}
pub use Rattle.capsule_laws.specs.{Claims.Makes}
unfoldable pub use Rattle.capsule_protocol.specs.{Field.field_of, Field.in_use}
pub use Rattle.http_errors.proofs.{Lookup.known, Lookup.nth-below, Lookup.nth_past, Lookup.unknown_error, Lookup.unknown_version}
pub use Rattle.http_errors.specs.{Translation.errors, Translation.versions}
unfoldable pub use Rattle.http_errors.specs.{Translation.translated}
pub use Rattle.judging.specs.{Judging.quarter, declared.judge.Judged.Judged}
unfoldable pub use Rattle.judging.specs.{Judging.judged_entry, Judging.judged_of, Judging.judged_read, Judging.judged_record}
unfoldable pub use Rattle.look.specs.{Looking.look_of}
unfoldable pub use Rattle.one_shot_listing.specs.{Listing.listing_of}
pub use Rattle.opening.specs.{declared.Role.Role, declared.Role.TheVariants.Endpoint, declared.Role.TheVariants.Intermediary}
unfoldable pub use Rattle.opening.specs.{Kinds.opted, Kinds.opted_by, Lent.addresses_verdict, Lent.lent_verdict, Lent.output_verdict}
pub use Rattle.planning.specs.{declared.Phase.Phase, declared.Phase.TheVariants.InLength, declared.Phase.TheVariants.InType, declared.Phase.TheVariants.InValue}
pub use Rattle.refusal_orders.specs.{Claims.AddressWriting, Claims.CapsuleWriting, Claims.Closing, Claims.DatagramHeaderWriting, Claims.DatagramWriting, Claims.Feeding, Claims.FieldReading, Claims.FrameHeaderWriting, Claims.FrameWriting, Claims.Judging, Claims.Listing, Claims.Looking, Claims.ReaderOpening, Claims.SideClosing, Claims.StreamFinding, Claims.StreamOpening, Claims.Translating, Claims.VarintWriting, Claims.WritingRefuses, Orders.TooShort, Orders.stream_named}
pub use Rattle.refusals.proofs.{First.Unless, First.When, First.goes_on, First.only, First.passes, First.stops, First.stops_unless, First.stops_when, First.unless, First.unless_above, First.when_true}
pub use Rattle.refusals.specs.{First.Order, First.Refuses, Numbers.bad_table, Numbers.not_a_request_stream, Numbers.not_in_table, Numbers.refusal, Numbers.unknown_error_or_version, declared.Refusal.Refusal}
unfoldable pub use Rattle.send_rights.specs.{Rights.agreed, Rights.sending_entry, Rights.sending_of, Rights.sending_record}
unfoldable pub use Rattle.sending.specs.{Sending.capsule_bytes, Sending.capsule_header, Sending.capsule_written, Sending.frame_bytes, Sending.frame_header_written, Sending.frame_written, Sending.put_capsule, Sending.put_capsule_header, Sending.put_frame, Sending.put_frame_header, Sending.write_capsule, Sending.write_frame, Sending.write_frame_header}
pub use Rattle.stream_records.proofs.{Goodness.good_exactly, Openings.lowest_none, Openings.none_lowest, Places.no_place, Tabled.at_place, Tabled.in_table, Tabled.not_in_table_lem}
pub use Rattle.stream_records.specs.{Records.blank, Records.has_semantics, Records.receive_open, Records.send_open, Tables.Table, Tables.entry_of, Words.Any, Words.GoodTable, Words.InTable, Words.UsedBelow, declared.answers.Entry.Entry, declared.record.StreamRecord.StreamRecord}
unfoldable pub use Rattle.stream_records.specs.{Tables.close_entry, Tables.closing_of, Tables.entry_at, Tables.find, Tables.is_bad, Tables.lowest_free, Tables.open_at, Tables.open_entry, Tables.opening_of, Tables.stand_entry, Tables.standing_of}
pub use Rattle.walks.proofs.{Impossible.no_true, Impossible.zero_one}
pub use Rattle.wire.proofs.{Identifiers.request_exactly, Parts.both, Parts.parted, Reading.split}
pub use Rattle.short_forms.specs.{declared.Varint.Varint, Short.varint_of}
pub use Rattle.wire.specs.{Units.IsRequestStream, Writing.Writing, declared.units.Quarter.Quarter, declared.units.StreamId.StreamId}
unfoldable pub use Rattle.wire.specs.{Units.is_request, Units.largest_quarter, Units.quarter_of, Varint.encode, Varint.largest, Varint.read_varint, Writing.refuses, Writing.write_at, Writing.write_varint}
