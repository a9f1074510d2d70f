-- Definitions, and laws of the crates below, that the proofs here use, passed on: one `use` in place of many.
pub use Rattle.judging.specs.{Claims.PayloadExactly, Claims.PlaceRight, Claims.QuarterRight, Code.JudgedByLookup, Judging.Judges, Judging.QuarterRead, Judging.if_accepted, Judging.quarter, Judging.rules, declared.judge.Judged.Judged}
unfoldable pub use Rattle.judging.specs.{Code.asked_in, Code.judged_by, Code.judged_read_by, Code.payload_by, Judging.after_quarter, Judging.entry_place, Judging.if_delivered, Judging.is_delivered, Judging.judged_entry, Judging.judged_of, Judging.judged_read, Judging.judged_record, Judging.payload_of, Judging.place_in, Judging.quarter_in, Judging.rule_of}
pub use Rattle.refusals.proofs.{First.Unless, First.goes_on, First.stops, First.stops_unless, First.unless_above, First.unless_false}
pub use Rattle.refusals.specs.{First.First, First.Order, First.Refuses, Numbers.bad_table, Numbers.limit_too_large, Numbers.number_too_large, declared.Refusal.Refusal}
pub use Rattle.stream_records.proofs.{Places.find_right, Tabled.at_place, Tabled.in_table, Tabled.not_in_table_lem}
pub use Rattle.stream_records.specs.{Records.blank, Records.has_semantics, Records.receive_open, Tables.Table, Tables.entry_of, Words.Any, Words.InTable, declared.answers.Entry.Entry, declared.record.StreamRecord.StreamRecord}
unfoldable pub use Rattle.stream_records.specs.{Tables.entry_at, Tables.find, Tables.is_bad, Tables.lookup_of}
pub use Rattle.wire.proofs.{Reading.reads, Reading.whole_same}
pub use Rattle.short_forms.specs.{Short.varint_of, declared.Varint.Varint}
pub use Rattle.wire.specs.{declared.units.Quarter.Quarter}
unfoldable pub use Rattle.wire.specs.{Units.largest_quarter, Varint.read_varint}
