-- Definitions, and laws of the crates below, that the proofs here use, passed on: one `use` in place of many.
pub use Rattle.refusals.specs.{Numbers.frames_not_agreed, Numbers.no_semantics, Numbers.not_a_request_stream, Numbers.send_side_closed}
unfoldable pub use Rattle.send_rights.specs.{Code.sending_by, Rights.agreed, Rights.sending_entry, Rights.sending_of, Rights.sending_record}
pub use Rattle.stream_records.proofs.{Decisions.found_by}
pub use Rattle.stream_records.specs.{Records.has_semantics, Records.send_open, Tables.Table, Tables.sought, declared.answers.Entry.Entry, declared.record.StreamRecord.StreamRecord}
unfoldable pub use Rattle.stream_records.specs.{Tables.lookup_of}
pub use Rattle.wire.proofs.{Identifiers.quarter_bounded}
pub use Rattle.wire.specs.{declared.units.Quarter.Quarter, declared.units.StreamId.StreamId}
unfoldable pub use Rattle.wire.specs.{Units.largest_quarter, Units.quarter_of}
