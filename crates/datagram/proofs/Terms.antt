-- Definitions, and laws of the crates below, that the proofs here use, passed on: one `use` in place of many.
pub use Rattle.capsule_laws.proofs.{Written.one_written}
pub use Rattle.datagram.specs.{Claims.CapsuleReadBack, Claims.FrameReadBack, Claims.Receives, Claims.TooManyRefused}
pub use Rattle.judging.proofs.{Deciding.judged_by_lookup, Rules.judged_so_lem}
pub use Rattle.judging.specs.{Judging.quarter, declared.judge.Judged.TheVariants.Delivered}
unfoldable pub use Rattle.judging.specs.{Code.judged_by, Code.payload_by, Judging.after_quarter, Judging.if_delivered, Judging.is_delivered, Judging.judged_entry, Judging.judged_of, Judging.judged_read, Judging.judged_record, Judging.payload_of}
pub use Rattle.sending.proofs.{Deciding.header_by_lookup, Deciding.sent_by_lookup}
unfoldable pub use Rattle.send_rights.specs.{Rights.sending_of}
unfoldable pub use Rattle.sending.specs.{Code.capsule_by, Code.frame_by, Code.frame_header_by, Sending.capsule_bytes, Sending.capsule_header, Sending.capsule_written, Sending.frame_bytes, Sending.frame_written, Sending.write_capsule, Sending.write_frame}
pub use Rattle.stream_records.specs.{Tables.Table}
unfoldable pub use Rattle.stream_records.specs.{Tables.entry_at, Tables.is_bad, Tables.lookup_of}
pub use Rattle.wire.proofs.{Encoding.length-encode, Encoding.read_back}
pub use Rattle.wire.specs.{declared.units.Quarter.Quarter}
unfoldable pub use Rattle.wire.specs.{Units.largest_quarter, Varint.encode, Varint.largest, Varint.least_size, Varint.read_varint}
