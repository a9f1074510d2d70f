-- Definitions, and laws of the crates below, that the proofs here use, passed on: one `use` in place of many.
pub use Rattle.address_cursor.specs.{Handing.Answer, declared.Address.Address, declared.AddressRange.AddressRange, declared.Cursor.Cursor}
unfoldable pub use Rattle.address_cursor.specs.{Handing.address_of, Handing.answer_at, Handing.answer_for, Handing.next_address, Handing.next_range, Handing.padded, Handing.range_of}
pub use Rattle.address_rows.specs.{Rows.entry_size, Rows.range_size}
unfoldable pub use Rattle.address_rows.specs.{Rows.entries_in, Rows.id_fits, Rows.is_whole, Rows.ranges_in}
pub use Rattle.address_writer.specs.{Claims.route_advertisement}
unfoldable pub use Rattle.address_writer.specs.{Claims.write_of, Writer.capsule_of, Writer.write_addresses, Writer.write_routes, Writer.write_value}
pub use Rattle.addresses.proofs.{Reading.entry_shrinks, Reading.range_shrinks}
pub use Rattle.addresses.specs.{Addresses.Step, Addresses.done, Addresses.malformed, Addresses.route}
unfoldable pub use Rattle.addresses.specs.{Addresses.address_at, Addresses.ahead, Addresses.all_of, Addresses.are_good, Addresses.clear_beyond, Addresses.entries, Addresses.entries_by, Addresses.entry_at, Addresses.good_entry, Addresses.good_requests, Addresses.good_value, Addresses.identified, Addresses.is_address_type, Addresses.longest_address_value, Addresses.onwards, Addresses.range_at, Addresses.well_formed, Addresses.width_of, Encoding.entry_bytes, Encoding.range_bytes, Encoding.value_bytes}
pub use Rattle.answers.specs.{AddressCapsules.cursor, declared.varint.WrittenAnswer.WrittenAnswer}
unfoldable pub use Rattle.answers.specs.{AddressCapsules.address_found, AddressCapsules.address_answered, AddressCapsules.address_entry, AddressCapsules.blank_address, AddressCapsules.blank_route, AddressCapsules.found_number, AddressCapsules.next_place, AddressCapsules.route_answered, AddressCapsules.route_entry, AddressCapsules.route_found, Identifiers.quarter_answer, Identifiers.stream_answer, Messages.action_answer, Messages.field_answer, Messages.message_of, Messages.translation_answer, Numbers.end_number, Numbers.error_number, Numbers.side_of, Numbers.status_of, OneShot.ending_number, OneShot.listing_answer, Varint.varint_answer, Varint.written_answer}
pub use Rattle.capi.specs.{Cases.Cases, Cases.SendingCases, Claims.CloseKept, Claims.Demand3InWords, Claims.EntriesGoOn, Claims.FeedKept, Claims.GoesOn, Claims.LookKept, Claims.MalformedError, Claims.NotZero, Claims.Numbered, Claims.NumberedRefusals, Claims.NumbersRead, Claims.OpenKept, Claims.PayloadPart, Claims.ReaderKept, Claims.RefusalLeaves, Claims.RefusedReaderLeaves, Claims.RefusedTableLeaves, Claims.RefusedWriteLeaves, Claims.TableKept, Claims.TableStaysGood, Claims.Throughout, Claims.WritingNumbered, Claims.WrittenKept, Claims.ZeroWordsRefused, Claims.closed_in, Claims.fed_in, Table.closed, Table.opened, Table.stream_id_of, Told.AnswersTold, Told.ElseZero, Told.ErrorSo, Told.VarintSo, Varint.wrote}
unfoldable pub use Rattle.capi.specs.{Claims.numbers_of, Claims.run_numbers, Claims.run_words, Claims.words_call, Sight.look_words, Table.close_table, Table.open_table, Told.address_in, Told.bit_in, Told.ended_in, Told.error_in, Told.field_in, Told.found_in, Told.listed_in, Told.looked_in, Told.opened_in, Told.range_in, Told.refused_or, Told.rule_in, Told.side_closed_in, Told.standing_in, Told.stream_in, Told.translation_in, Told.varint_in, Told.written_in, Varint.wrote_by}
pub use Rattle.capsule.specs.{Calls.Lent, Calls.Reply, Calls.close, Calls.feed, Reader.fresh, Reader.opening, declared.reader.Reader.Reader}
unfoldable pub use Rattle.capsule.specs.{Book.book_call, Book.new_book, Book.only_if, Calls.finishes_in, Calls.run, Reader.close_of, Reader.end_at, Reader.fed_by, Reader.feed_by, Reader.feed_of, Reader.is_makeable, Reader.is_opening, Reader.judged_in, Reader.open_of, Reader.reader_call, Reader.stored, Reader.take_of, Reader.verdict_of, State.of_book}
pub use Rattle.capsule_laws.proofs.{Arising.refused-close_unchanged, Lists.demand_3, Lists.fresh_book, Lists.fresh_open, Lists.made_book, Lists.open_fresh, Makeable.calls_makeable, Makeable.refused_unchanged, Makeable.stays_makeable}
pub use Rattle.capsule_laws.specs.{Claims.HandedOn}
unfoldable pub use Rattle.http_messages.specs.{Errors.number}
unfoldable pub use Rattle.http_errors.specs.{Ties.close_error, Ties.judged_error, Ties.report_error}
pub use Rattle.judging.specs.{Judging.Judges, declared.judge.Judged.Judged}
unfoldable pub use Rattle.judging.specs.{Judging.after_quarter, Judging.if_delivered, Judging.is_delivered, Judging.judged_of, Judging.payload_of, Judging.place_in, Judging.quarter_in, Judging.rule_of}
pub use Rattle.look.specs.{declared.Buffer.TheVariants.Addresses, declared.Buffer.TheVariants.Gathering, declared.Buffer.TheVariants.Neither, declared.Place.Place}
unfoldable pub use Rattle.look.specs.{Looking.buffer_of, Looking.look_of, Looking.place_of, Looking.sight_of, Looking.stored_in}
pub use Rattle.opening.specs.{declared.Opening.Opening, declared.Report.TheVariants.AddressDelivered, declared.Report.TheVariants.Delivered, declared.Report.TheVariants.Dropped, declared.Report.TheVariants.Malformed, declared.Report.TheVariants.Passed, declared.Report.TheVariants.Skipped, declared.Role.Role, declared.Role.TheVariants.Endpoint, declared.Role.TheVariants.Intermediary}
unfoldable pub use Rattle.opening.specs.{Kinds.extent_by, Kinds.extent_of, Kinds.finishes, Kinds.forwards, Kinds.forwards_by, Kinds.gathers, Kinds.gathers_by, Kinds.judged, Kinds.keeps, Kinds.keeps_by, Kinds.kind_of, Kinds.length_of, Kinds.opted, Kinds.opted_by, Kinds.report_by, Kinds.report_of, Lent.addresses_verdict, Lent.lent_verdict, Lent.output_verdict}
pub use Rattle.planning.specs.{declared.Phase.Phase, declared.Phase.TheVariants.InLength, declared.Phase.TheVariants.InType, declared.Phase.TheVariants.InValue}
unfoldable pub use Rattle.planning.specs.{Plans.held_of, Plans.is_makeable_phase, Plans.plan_head, Plans.plan_length, Plans.plan_of, Plans.plan_type, Plans.plan_value}
pub use Rattle.reader_answers.specs.{declared.reader.FedAnswer.FedAnswer, declared.sight.LookAnswer.LookAnswer}
unfoldable pub use Rattle.reader_answers.specs.{Reader.close_refusal, Reader.closed_answer, Reader.fed_answer, Reader.fed_report, Reader.fed_took, Reader.report_number, Reader.type_of, Sight.buffer_number, Sight.looked_answer, Sight.sight_answer}
pub use Rattle.reader_calls.proofs.{ReaderCalls.close_by, ReaderCalls.close-nothing}
unfoldable pub use Rattle.reader_calls.specs.{Reader.close_loaded, Reader.close_words, Reader.closed_by, Reader.feed_loaded, Reader.feed_words, Reader.open_words, Reader.opened_at, Reader.words_closed, Reader.words_fed}
pub use Rattle.reader_words.proofs.{StoredForm.stored-read}
pub use Rattle.reader_words.specs.{Claims.HaveIsByte}
unfoldable pub use Rattle.reader_words.specs.{Numbers.bit_of, Numbers.flag_of, Numbers.role_of, Words.addresses_in, Words.draft_in, Words.phase_in, Words.phase_words, Words.reader_in, Words.reader_mark, Words.role_in, Words.role_word, Words.settings_number, Words.with_phase, Words.words_of}
pub use Rattle.refusal_orders.proofs.{Reading.closing, Reading.feeding, Reading.field_reading, Reading.listing, Reading.looking, Reading.reader_opening_lem, Reading.translating, Reading.varint-writing, Tables.judging, Tables.side_closing, Tables.stream_finding, Tables.stream-opening, Writers.address-writing, Writers.capsule-writing, Writers.datagram_header-writing, Writers.datagram_writing_lem, Writers.frame-header-writing, Writers.frame-writing}
pub use Rattle.refusals.specs.{First.First, First.Order, First.Refuses, Numbers.malformed_to_write, Numbers.number_too_large, Numbers.refusal, Numbers.unmakeable_state, declared.Refusal.Refusal}
pub use Rattle.sending.proofs.{Leaving.writers_leave}
unfoldable pub use Rattle.send_rights.specs.{Rights.agreed, Rights.sending_entry, Rights.sending_of, Rights.sending_record}
unfoldable pub use Rattle.sending.specs.{Sending.capsule_bytes, Sending.capsule_header, Sending.frame_header_written, Sending.put_capsule, Sending.put_capsule_header, Sending.put_frame_header, Sending.write_capsule, Sending.write_frame, Sending.write_frame_header}
pub use Rattle.stream_answers.specs.{declared.frames.JudgedAnswer.JudgedAnswer, declared.table.OpenedAnswer.OpenedAnswer, declared.table.SideClosedAnswer.SideClosedAnswer}
unfoldable pub use Rattle.stream_answers.specs.{Frames.delivered_answer, Frames.judged_answer, Frames.or_zero, Table.found_answer, Table.opened_answer}
pub use Rattle.stream_records.proofs.{Closings.stays_good}
pub use Rattle.stream_records.specs.{Tables.Table, declared.answers.SideClosed.SideClosed, declared.record.Side.Side, declared.record.Side.TheVariants.Receive, declared.record.Side.TheVariants.Send}
unfoldable pub use Rattle.stream_records.specs.{Records.both_closed, Records.closed_side, Records.flag, Records.holds, Records.is_bad_record, Records.is_blank, Records.with_closed, Records.without, Tables.any_bad, Tables.close_entry, Tables.closing_of, Tables.find, Tables.is_bad, Tables.lowest_free, Tables.next, Tables.open_at, Tables.open_entry, Tables.opening_of, Tables.stand_entry, Tables.standing_of, Tables.stands_in, Tables.stands_twice, Tables.table_closed, Tables.table_opened}
pub use Rattle.walks.proofs.{Impossible.zero_one}
pub use Rattle.wire.proofs.{Leaving.at_leaves, Leaving.if_leaves, Leaving.refuses_leaves, Leaving.varint_leaves, Parts.parted, Parts.starts_le, Reading.reads}
pub use Rattle.short_forms.specs.{declared.Varint.Varint, Short.varint_of}
pub use Rattle.wire.specs.{Bytes.Bytes, Claims.Leaves, Writing.Writing, Writing.writing, declared.units.Quarter.Quarter, declared.units.StreamId.StreamId}
unfoldable pub use Rattle.wire.specs.{Bytes.bytes_of, Bytes.num, Bytes.num_from, Partial.held_bytes, Partial.is_partial, Partial.partial_of, Partial.starts, Partial.take_varint, Partial.taken_of, Units.is_request, Units.largest_quarter, Units.quarter_of, Units.stream_of, Varint.largest, Varint.read_varint, Varint.size_of, Varint.value_of, Writing.refuses, Writing.write_at}
