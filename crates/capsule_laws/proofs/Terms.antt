-- Definitions, and laws of the crates below, that the proofs here use, passed on: one `use` in place of many.
unfoldable pub use Rattle.addresses.specs.{Addresses.is_address_type, Addresses.longest_address_value, Addresses.well_formed}
pub use Rattle.capsule.proofs.{Verdicts.Accepts, Verdicts.accepted_makeable, Verdicts.accepts, Verdicts.feed_refused, Verdicts.feed_taken}
pub use Rattle.capsule.specs.{Book.Book, Book.Taken, Calls.Call, Calls.Lent, Calls.Reply, Calls.close, Calls.closed, Calls.fed, Calls.feed, Calls.lent, Calls.refused, Grammar.Capsule, Grammar.Extent, Grammar.Front, Grammar.Parts, Grammar.Stage, Grammar.ahead, Grammar.in_length, Grammar.in_type, Grammar.in_value, Grammar.part, Grammar.parts, Grammar.plain, Grammar.whole, Reader.Feeding, Reader.closing, Reader.feeding, Reader.fresh, Reader.opening, declared.reader.Closed.Closed, declared.reader.Reader.Reader}
unfoldable pub use Rattle.capsule.specs.{Book.append, Book.book_call, Book.book_close, Book.book_feed, Book.book_verdict, Book.completes, Book.end_of, Book.ended_by, Book.first_of, Book.forwarded, Book.from_capsules, Book.from_parts, Book.from_tail, Book.gained, Book.new_book, Book.only_if, Book.parts_for, Book.payload_by, Book.reported, Calls.finishes_in, Calls.run, Grammar.capsule_at, Grammar.cut_by, Grammar.front_by, Grammar.parts_by, Reader.close_of, Reader.close_reply, Reader.end_at, Reader.fed_by, Reader.feed_by, Reader.feed_of, Reader.feed_reply, Reader.front_of, Reader.is_makeable, Reader.is_opening, Reader.judged_in, Reader.open_of, Reader.reader_call, Reader.stored, Reader.take_of, Reader.verdict_of, Reader.wrote, State.of_book, State.phase_at, State.phase_of, State.reader_of}
pub use Rattle.capsule_laws.specs.{AddressClaims.AddressDeliveredExactly, AddressClaims.AddressExactly, AddressClaims.AddressesTooShortExactly, AddressClaims.BuffersExactly, AddressClaims.CompleteExactly, AddressClaims.GathersExactly, AddressClaims.IsAddress, AddressClaims.IsDatagram, AddressClaims.KeepsExactly, AddressClaims.MalformedExactly, AddressClaims.OpenExactly, AddressClaims.OthersAsBefore, Claims.AddressesWell, Claims.Agrees, Claims.AllBytes, Claims.AllFinished, Claims.AllRead, Claims.AllShort, Claims.AnswersAsBefore, Claims.AsBefore, Claims.BookAsBefore, Claims.ByTheGrammar, Claims.CallBytes, Claims.ClosesAsBefore, Claims.Demand3, Claims.Demand3Standing, Claims.Follows, Claims.ForwardedGrows, Claims.GrammarUnlessMalformed, Claims.HandedOn, Claims.HeldAtMostSeven, Claims.LentWell, Claims.MakeableExactly, Claims.Makes, Claims.MarkedExactly, Claims.NeverUnmakeable, Claims.NoneFinish, Claims.NoneIs, Claims.NotOptedGrammar, Claims.NothingAfter, Claims.Progress, Claims.ReadsAs, Claims.RefusedUnchanged, Claims.Short, Claims.ShortStage, Claims.SplitRight, Claims.Stands, Claims.StandsAt, Claims.StandsBy, Claims.StateDecided, Claims.StateOfBook, Claims.StateOfPlainBook, Claims.StaysMakeable, Claims.StopsAtTooLong, Claims.UnmarkedGrammar, Claims.Wanted, Claims.WholeList, ReaderClaims.ClosesExactly, ReaderClaims.ConsumedExactly, ReaderClaims.Consumes, ReaderClaims.DatagramExactly, ReaderClaims.DeliveredExactly, ReaderClaims.DroppedExactly, ReaderClaims.EndExactly, ReaderClaims.FedExactly, ReaderClaims.FinishesExactly, ReaderClaims.ForwardedExactly, ReaderClaims.HandedOnStands, ReaderClaims.LengthTold, ReaderClaims.OpenedAsNamed, ReaderClaims.OutputExactly, ReaderClaims.OutputKept, ReaderClaims.PassedExactly, ReaderClaims.ReaderNeverUnmakeable, ReaderClaims.RefusedCloseUnchanged, ReaderClaims.SkippedExactly, ReaderClaims.StandsAfter, ReaderClaims.StreamConsumed, ReaderClaims.TypeComplete, ReaderClaims.UpTo}
unfoldable pub use Rattle.capsule_laws.specs.{AddressClaims.stored_at, AddressClaims.stored_from, Claims.any_marks, Claims.consumed_by, Claims.consumed_in, Claims.delivered, Claims.if_address, Claims.if_delivered, Claims.joined, Claims.left_by, Claims.marks_in, Claims.reports, Claims.reports_in, Claims.values, Claims.values_in, Claims.writes, ReaderClaims.if_passed, ReaderClaims.passed_bytes}
pub use Rattle.opening.proofs.{Kinding.kind_address, Lending.addresses-short, Lending.endpoint-lent, Lending.endpoint_on, Lending.gathering-short, Lending.output-lent}
pub use Rattle.opening.specs.{declared.Kind.Kind, declared.Kind.TheVariants.Address, declared.Kind.TheVariants.Datagram, declared.Kind.TheVariants.Unknown, declared.Opening.Opening, declared.Report.Report, declared.Report.TheVariants.AddressDelivered, declared.Report.TheVariants.Delivered, declared.Report.TheVariants.Dropped, declared.Report.TheVariants.Malformed, declared.Report.TheVariants.Passed, declared.Report.TheVariants.Skipped, declared.Role.Role, declared.Role.TheVariants.Endpoint, declared.Role.TheVariants.Intermediary}
unfoldable pub use Rattle.opening.specs.{Kinds.extent_by, Kinds.extent_of, Kinds.finishes, Kinds.forwards, Kinds.forwards_by, Kinds.gathers, Kinds.gathers_by, Kinds.judged, Kinds.keeps, Kinds.keeps_by, Kinds.kind_of, Kinds.length_of, Kinds.only_delivered, Kinds.opted, Kinds.opted_by, Kinds.report_by, Kinds.report_of, Lent.addresses_verdict, Lent.lent_verdict, Lent.output_verdict}
pub use Rattle.planning.proofs.{Planning.extent_most, Planning.gathers_limit, Planning.held_few, Planning.keeps_limit, Planning.keeps-opted, Planning.length-ends, Planning.length_more, Planning.plan-fits, Planning.type_ends, Planning.type_more, Planning.value-ends, Planning.value_goes}
pub use Rattle.planning.specs.{Plans.no_bytes, declared.Phase.Phase, declared.Phase.TheVariants.InLength, declared.Phase.TheVariants.InType, declared.Phase.TheVariants.InValue, declared.Plan.Plan}
unfoldable pub use Rattle.planning.specs.{Plans.held_of, Plans.is_makeable_phase, Plans.plan_head, Plans.plan_length, Plans.plan_of, Plans.plan_type, Plans.plan_value}
pub use Rattle.refusals.specs.{Numbers.addresses_too_short, Numbers.finished, Numbers.gathering_too_short, Numbers.output_too_short, Numbers.unmakeable_state, declared.Refusal.Refusal}
pub use Rattle.walks.proofs.{Impossible.no_true, Impossible.zero_one, Impossible.ok_same}
pub use Rattle.wire.proofs.{Encoding.encode_one, Encoding.every_form_read, Encoding.length-encode, Encoding.read_back, Encoding.size-at, Encoding.width_0, Numbers.bytes-append, Numbers.bytes_drop, Numbers.bytes_take, Numbers.bytes_of-bytes, Numbers.length-bytes_of, Parts.both, Parts.empty-is, Parts.goes_on, Parts.held_bytes_lem, Parts.held_partial, Parts.held_read, Parts.parted, Parts.partial_held, Parts.partial_occurs, Reading.incomplete_lt, Reading.no_whole_nil, Reading.read_bounds, Reading.read_nil, Reading.reads, Reading.split, Reading.whole_incomplete, Reading.whole_same}
pub use Rattle.short_forms.specs.{declared.Varint.Varint, Short.varint_of}
pub use Rattle.wire.specs.{Bytes.Bytes, declared.partial.Partial.Partial, declared.partial.VarintTaken.TheVariants.Ends, declared.partial.VarintTaken.TheVariants.Impossible, declared.partial.VarintTaken.TheVariants.More}
unfoldable pub use Rattle.wire.specs.{Bytes.bytes_of, Partial.held_bytes, Partial.is_partial, Partial.partial_of, Partial.take_varint, Partial.taken_of, Varint.encode, Varint.encode_as, Varint.largest, Varint.least_size, Varint.read_varint}
