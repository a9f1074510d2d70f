-- Definitions, and laws of the crates below, that the proofs here use, passed on: one `use` in place of many.
pub use Rattle.stream_plans.specs.{Code.ClosedByPlan, Code.OpenedByPlan}
unfoldable pub use Rattle.stream_plans.specs.{Code.closed_store, Code.closing_by, Code.closing_plan_of, Code.opened_store, Code.opening_by, Code.opening_plan_of, Code.record_in, Code.standing_by, Code.stored}
pub use Rattle.stream_records.proofs.{Decisions.closes, Decisions.found_by, Decisions.opened-table, Decisions.opens, Decisions.sought-is}
pub use Rattle.stream_records.specs.{Records.opened, Tables.Table, Tables.sought, declared.answers.SideClosed.SideClosed, declared.record.Side.Side, declared.record.StreamRecord.StreamRecord}
unfoldable pub use Rattle.stream_records.specs.{Records.closed_side, Tables.close_entry, Tables.closing_of, Tables.entry_at, Tables.find, Tables.lookup_of, Tables.lowest_free, Tables.open_entry, Tables.opening_of, Tables.stand_entry, Tables.standing_of, Tables.table_closed, Tables.table_opened}
pub use Rattle.wire.specs.{declared.units.Quarter.Quarter, declared.units.StreamId.StreamId}
