-- Definitions, and laws of the crates below, that the proofs here use, passed on: one `use` in place of many.
pub use Rattle.copying.proofs.{Laws.copied}
pub use Rattle.copying.specs.{Copy.copying}
unfoldable pub use Rattle.copying.specs.{Copy.copy}
pub use Rattle.refusals.specs.{Numbers.frame_too_long, Numbers.number_too_large, Numbers.output_too_short, declared.Refusal.Refusal}
pub use Rattle.send_rights.proofs.{Deciding.sends, Deciding.sending_to, Deciding.sent_bounded}
pub use Rattle.sending.specs.{Claims.HeaderAlone, Claims.HeaderRefused, Claims.HeaderThenPayload, Claims.HeadersShortest, Claims.WritersLeave, Code.SentByLookup}
unfoldable pub use Rattle.send_rights.specs.{Rights.agreed, Rights.sending_of}
unfoldable pub use Rattle.sending.specs.{Code.capsule_by, Code.frame_by, Code.frame_header_by, Code.put_capsule_by, Code.put_frame_by, Sending.capsule_bytes, Sending.capsule_header, Sending.capsule_written, Sending.frame_bytes, Sending.frame_header_written, Sending.frame_written, Sending.put_capsule, Sending.put_capsule_header, Sending.put_frame, Sending.put_frame_header, Sending.write_capsule, Sending.write_frame, Sending.write_frame_header}
pub use Rattle.stream_records.specs.{Tables.Table, Tables.sought}
unfoldable pub use Rattle.stream_records.specs.{Tables.lookup_of}
pub use Rattle.wire.proofs.{Encoding.least, Encoding.length-encode, Encoding.shortest, Encoding.write_fits, Identifiers.request_exactly, Leaving.at_leaves, Leaving.if_leaves, Leaving.refuses_leaves, Numbers.sets-append}
pub use Rattle.wire.specs.{Claims.Leaves, Writing.Writing, Writing.writing, declared.units.Quarter.Quarter, declared.units.StreamId.StreamId}
unfoldable pub use Rattle.wire.specs.{Units.largest_quarter, Varint.encode, Varint.largest, Varint.least_size, Writing.refuses, Writing.write_at, Writing.write_varint}
