-- Definitions, and laws of the crates below, that the proofs here use, passed on: one `use` in place of many.
pub use Rattle.stream_survey.specs.{declared.survey.Survey.Survey}
unfoldable pub use Rattle.stream_survey.specs.{Code.after, Code.checked, Code.fitting, Code.looked_free, Code.looked_used, Code.lookup_in, Code.nothing_seen, Code.survey_below, Code.survey_of}
pub use Rattle.stream_records.proofs.{Flags.blank-is}
pub use Rattle.stream_records.specs.{Records.blank, Records.is_used, Tables.Table, declared.record.StreamRecord.StreamRecord}
unfoldable pub use Rattle.stream_records.specs.{Records.flag, Records.holds, Records.is_bad_record, Records.is_blank, Tables.any_bad, Tables.entry_at, Tables.find, Tables.is_bad, Tables.lookup_of, Tables.next, Tables.stands_in, Tables.stands_twice}
