-- The tables hold, by computing the definitions. Assumes nothing.
use Rattle.std.specs.Prelude.{Result, Ok, Err}
use Rattle.walks.proofs.Words.{◌≡◌, refl, ℕ, arith, false, None}
use Rattle.refusals.specs.declared.Refusal.{Refusal}
use Rattle.wire.specs.{Bytes.num_from, Bytes.num, Bytes.bytes_of, Varint.largest, Varint.size_of, Varint.value_of, Varint.read_varint, Varint.encode_as, Varint.least_width, Varint.encode, Writing.refuses, Writing.write_at, Writing.write_varint, Partial.partial_of, Partial.held_bytes, Partial.starts, Partial.is_partial, Partial.taken_of, Partial.take_varint, Units.is_request, Units.largest_quarter, Units.quarter_of, Units.stream_of}
use Rattle.addresses.specs.{Addresses.is_address_type, Addresses.longest_address_value, Addresses.width_of, Addresses.ahead, Addresses.onwards, Addresses.entries_by, Addresses.entries, Addresses.all_of, Addresses.are_good, Addresses.address_at, Addresses.identified, Addresses.entry_at, Addresses.clear_beyond, Addresses.good_entry, Addresses.asks, Addresses.good_requests, Addresses.range_at, Addresses.good_range, Addresses.before, Addresses.in_order, Addresses.disjoint, Addresses.apart, Addresses.all_apart, Addresses.good_ranges, Addresses.good_value, Addresses.well_formed, Cases.many}
use Rattle.capsule.specs.{Grammar.front_by, Grammar.capsule_at, Grammar.cut_by, Grammar.parts_by, Calls.run, Calls.finishes_in, Book.parts_for, Book.only_if, Book.from_capsules, Book.from_tail, Book.from_parts, Book.forwarded, Book.first_of, Book.completes, Book.append, Book.reported, Book.ended_by, Book.payload_by, Book.gained, Book.end_of, Book.new_book, Book.book_verdict, Book.book_feed, Book.book_close, Book.book_call, Reader.fresh, Reader.is_opening, Reader.open_of, Reader.is_makeable, Reader.verdict_of, Reader.wrote, Reader.stored, Reader.fed_by, Reader.take_of, Reader.feed_by, Reader.feed_of, Reader.end_at, Reader.close_of, Reader.judged_in, Reader.front_of, Reader.feed_reply, Reader.close_reply, Reader.reader_call}
use Rattle.opening.specs.{Kinds.opted_by, Kinds.opted, Kinds.kind_of, Kinds.extent_by, Kinds.extent_of, Kinds.report_by, Kinds.report_of, Kinds.judged, Kinds.finishes, Kinds.only_delivered, Kinds.forwards_by, Kinds.forwards, Kinds.gathers_by, Kinds.gathers, Kinds.keeps_by, Kinds.keeps, Kinds.length_of, Lent.output_verdict, Lent.addresses_verdict, Lent.lent_verdict}
use Rattle.planning.specs.Plans.{is_makeable_phase, plan_value, plan_head, plan_length, plan_type, plan_of, held_of}
use Rattle.capsule_laws.specs.Claims.{left_by, HandedOn, if_delivered, delivered}
use Rattle.stream_records.specs.{Records.flag, Records.both_closed, Records.is_blank, Records.is_bad_record, Records.holds, Tables.any_bad, Tables.stands_in, Tables.stands_twice, Tables.is_bad, Tables.next, Tables.find, Tables.entry_at as entry_in_table}
use Rattle.judging.specs.Judging.{rule_of, judged_record, judged_entry, judged_read, judged_of, after_quarter, is_delivered, if_delivered as only_delivered_frame, payload_of}
use Rattle.send_rights.specs.Rights.{agreed, sending_record, sending_entry, sending_of}
use Rattle.sending.specs.Sending.{capsule_header, capsule_bytes, frame_bytes, put_capsule, put_frame, capsule_written, frame_written, write_capsule, write_frame}
use Rattle.cases.specs.{Starred.outcome_of, Starred.AllStarred, Pin.intermediary, Pin.opted_in, Lists.refused_between, Addresses.short_between, Addresses.PremiseNeeded, Pins.Pinned}

pub all-starred : AllStarred
unfolding outcome_of parts_for parts_by cut_by front_by capsule_at read_varint size_of value_of num num_from opted_by opted kind_of extent_by extent_of report_by report_of judged finishes finishes_in only_delivered forwards_by forwards is_address_type reported only_if from_capsules from_tail from_parts forwarded end_of if_delivered delivered judged_record judged_entry judged_read judged_of after_quarter is_delivered only_delivered_frame payload_of flag both_closed is_blank is_bad_record holds any_bad stands_in stands_twice is_bad next find entry_in_table capsule_bytes encode encode_as least_width bytes_of largest_quarter capsule_header
all-starred = record { table = refl; headers = λ payload. refl }

pub pinned : Pinned
unfolding read_varint size_of value_of num num_from largest encode encode_as least_width bytes_of write_varint write_at refuses partial_of held_bytes starts is_partial taken_of take_varint quarter_of stream_of is_request largest_quarter outcome_of parts_for parts_by cut_by front_by capsule_at is_address_type opted_by opted kind_of extent_by extent_of report_by report_of judged finishes finishes_in only_delivered forwards_by forwards gathers_by gathers keeps_by keeps only_if from_capsules from_tail from_parts forwarded reported end_of if_delivered delivered output_verdict addresses_verdict lent_verdict is_opening open_of is_makeable_phase is_makeable verdict_of plan_value plan_head plan_length plan_type plan_of held_of wrote stored judged_in fed_by take_of feed_by feed_of end_at close_of length_of longest_address_value first_of completes append ended_by payload_by gained new_book book_verdict book_feed book_close book_call front_of feed_reply close_reply reader_call run width_of ahead onwards entries_by entries all_of are_good address_at identified entry_at clear_beyond good_entry asks good_requests range_at good_range before in_order disjoint apart all_apart good_ranges good_value well_formed many rule_of judged_record judged_entry judged_read judged_of after_quarter is_delivered only_delivered_frame payload_of flag both_closed is_blank is_bad_record holds any_bad stands_in stands_twice is_bad next find entry_in_table capsule_header capsule_bytes frame_bytes agreed sending_record sending_entry sending_of put_capsule put_frame capsule_written frame_written write_capsule write_frame
pinned = refl

-- demand 3's premise on buffers is met by a list with a 4, a 5 and calls after the close
no_verdict {ℓ} : {X : Type ℓ} {r : Refusal} → ◌≡◌ {A = Result (Unit {0}) Refusal} (Err r) (Ok tt) → X
no_verdict e = let z : ◌≡◌ {A = ℕ} 0 1 = cc in absurd (let n : ⊥ = omega arith in n)

pub handed_on : HandedOn None (new_book (intermediary 4)) (fresh (intermediary 4)) refused_between
unfolding read_varint size_of value_of num num_from largest bytes_of partial_of held_bytes starts is_partial taken_of take_varint is_address_type opted_by opted kind_of extent_by extent_of report_by report_of judged finishes finishes_in only_delivered forwards_by forwards gathers_by gathers keeps_by keeps parts_for parts_by cut_by front_by capsule_at only_if from_capsules from_tail from_parts forwarded first_of completes append reported ended_by payload_by gained end_of new_book book_verdict book_feed book_close book_call output_verdict addresses_verdict lent_verdict is_opening open_of is_makeable_phase is_makeable verdict_of plan_value plan_head plan_length plan_type plan_of held_of wrote stored judged_in fed_by take_of feed_by feed_of end_at close_of length_of front_of feed_reply close_reply reader_call run left_by
handed_on = (λ v. tt, (λ v. no_verdict v, (λ v. no_verdict v, (λ v. (refl, λ o. refl), (λ v. no_verdict v, tt)))))

-- and of an endpoint that opted in by one with an 18, a malformed capsule and calls after it
pub addresses_handed_on : HandedOn None (new_book (opted_in false)) (fresh (opted_in false)) short_between
unfolding read_varint size_of value_of num num_from largest bytes_of partial_of held_bytes starts is_partial taken_of take_varint is_address_type longest_address_value width_of ahead onwards entries_by entries all_of are_good address_at identified entry_at clear_beyond good_entry asks good_requests range_at good_range before in_order disjoint apart all_apart good_ranges good_value well_formed opted_by opted kind_of extent_by extent_of report_by report_of judged finishes finishes_in only_delivered forwards_by forwards gathers_by gathers keeps_by keeps parts_for parts_by cut_by front_by capsule_at only_if from_capsules from_tail from_parts forwarded first_of completes append reported ended_by payload_by gained end_of new_book book_verdict book_feed book_close book_call output_verdict addresses_verdict lent_verdict is_opening open_of is_makeable_phase is_makeable verdict_of plan_value plan_head plan_length plan_type plan_of held_of wrote stored judged_in fed_by take_of feed_by feed_of end_at close_of length_of front_of feed_reply close_reply reader_call run left_by
addresses_handed_on = (λ v. tt, (λ v. no_verdict v, (λ v. (refl, λ o. refl), (λ v. (refl, λ o. refl), (λ v. no_verdict v, tt)))))

pub premise_needed : PremiseNeeded
unfolding read_varint size_of value_of num num_from largest bytes_of partial_of held_bytes starts is_partial taken_of take_varint is_address_type longest_address_value width_of ahead onwards entries_by entries all_of are_good address_at identified entry_at clear_beyond good_entry asks good_requests range_at good_range before in_order disjoint apart all_apart good_ranges good_value well_formed opted_by opted kind_of extent_by extent_of report_by report_of judged finishes finishes_in only_delivered forwards_by forwards gathers_by gathers keeps_by keeps parts_for parts_by cut_by front_by capsule_at only_if from_capsules from_tail from_parts forwarded first_of completes append reported ended_by payload_by gained end_of new_book book_verdict book_feed book_close book_call output_verdict addresses_verdict lent_verdict is_opening open_of is_makeable_phase is_makeable verdict_of plan_value plan_head plan_length plan_type plan_of held_of wrote stored judged_in fed_by take_of feed_by feed_of end_at close_of length_of front_of feed_reply close_reply reader_call run
premise_needed = (refl, refl)
