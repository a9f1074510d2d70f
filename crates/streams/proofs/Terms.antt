-- Definitions, and laws of the crates below, that the proofs here use, passed on: one `use` in place of many.
pub use Rattle.stream_plans.proofs.{Planning.closed_by_plan, Planning.opened_by_plan, Planning.standing-found}
pub use Rattle.stream_survey.proofs.{Blanks.Occupied, Surveying.Surveyed, Surveying.fits-within, Surveying.inside, Surveying.lookup_right, Surveying.stands-any, Surveying.surveyed_end, Surveying.surveyed_first, Surveying.surveyed_free, Surveying.surveyed_used}
pub use Rattle.stream_plans.specs.{declared.plan.Plan.Plan}
pub use Rattle.stream_survey.specs.{declared.survey.Survey.Survey}
unfoldable pub use Rattle.stream_plans.specs.{Code.standing_by, Code.stored}
unfoldable pub use Rattle.stream_survey.specs.{Code.fitting}
pub use Rattle.stream_records.proofs.{Places.first-is, Places.is_free, Places.lowest_first, Places.none_is}
pub use Rattle.stream_records.specs.{Records.blank, Records.is_used, Tables.Table, Words.UsedBelow, declared.answers.SideClosed.SideClosed, declared.record.StreamRecord.StreamRecord}
unfoldable pub use Rattle.stream_records.specs.{Records.holds, Tables.lookup_of, Tables.lowest_free, Tables.table_closed, Tables.table_opened}
pub use Rattle.wire.specs.{declared.units.Quarter.Quarter}
