-- Definitions, and laws of the crates below, that the proofs here use, passed on: one `use` in place of many.
pub use Rattle.refusals.specs.{Numbers.bad_table, Numbers.not_a_request_stream}
pub use Rattle.stream_records.specs.{Cases.Pinned, Claims.BlankExactly, Claims.ClosedAgain, Claims.ClosedAlready, Claims.ClosedExactly, Claims.ClosedRight, Claims.ClosedStored, Claims.ClosedTwice, Claims.FindNothing, Claims.FindRight, Claims.FlagsExactly, Claims.FoundOnce, Claims.FreeGood, Claims.FreedFoundAgain, Claims.FullThenFreed, Claims.GoodExactly, Claims.HoldsExactly, Claims.LowestTaken, Claims.NoneIsGood, Claims.OpenedExactly, Claims.OpenedFound, Claims.OpenedStored, Claims.OthersUntouched, Claims.StandsExactly, Claims.StaysGood, Claims.TooManyRefused, Claims.UsedGood, Records.blank, Records.has_semantics, Records.is_used, Records.opened, Records.receive_open, Records.send_open, Tables.Table, Tables.entry_of, Tables.sought, Words.Any, Words.GoodTable, Words.InTable, Words.UsedBelow, declared.answers.Entry.Entry, declared.answers.SideClosed.SideClosed, declared.record.Side.Side, declared.record.Side.TheVariants.Receive, declared.record.Side.TheVariants.Send, declared.record.StreamRecord.StreamRecord}
unfoldable pub use Rattle.stream_records.specs.{Cases.closings, Records.both_closed, Records.closed_side, Records.flag, Records.flag_of, Records.holds, Records.is_bad_record, Records.is_blank, Records.with_closed, Records.without, Tables.any_bad, Tables.close_entry, Tables.closing_of, Tables.entry_at, Tables.find, Tables.is_bad, Tables.lookup_of, Tables.lowest_free, Tables.next, Tables.open_at, Tables.open_entry, Tables.opening_of, Tables.sought_in, Tables.stand_entry, Tables.standing_of, Tables.stands_in, Tables.stands_twice, Tables.table_closed, Tables.table_opened}
pub use Rattle.wire.proofs.{Identifiers.quarter_bounded}
pub use Rattle.wire.specs.{declared.units.Quarter.Quarter, declared.units.StreamId.StreamId}
unfoldable pub use Rattle.wire.specs.{Units.is_request, Units.largest_quarter, Units.quarter_of}
