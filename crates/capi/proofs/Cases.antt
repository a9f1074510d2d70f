-- The numbers of the C interface, computed. Assumes nothing.
use Rattle.walks.proofs.Words.{refl}
use Rattle.capi.proofs.Terms.{num_from, num, bytes_of, largest, size_of, value_of, read_varint, partial_of, held_bytes, starts, is_partial, taken_of, take_varint, is_request, largest_quarter, quarter_of, stream_of, is_address_type, width_of, ahead, onwards, entries_by, entries, all_of, are_good, address_at, identified, entry_at, clear_beyond, good_entry, good_requests, range_at, good_value, longest_address_value, well_formed, answer_for, answer_at, padded, address_of, next_address, range_of, next_range, opted_by, opted, kind_of, extent_by, extent_of, report_by, report_of, judged, finishes, forwards_by, forwards, gathers_by, gathers, keeps_by, keeps, length_of, output_verdict, addresses_verdict, lent_verdict, finishes_in, only_if, judged_in, is_opening, open_of, is_makeable, verdict_of, stored, fed_by, take_of, feed_by, feed_of, end_at, close_of, is_makeable_phase, plan_value, plan_head, plan_length, plan_type, plan_of, held_of, flag, both_closed, is_blank, is_bad_record, holds, without, with_closed, closed_side, any_bad, stands_in, stands_twice, is_bad, next, find, lowest_free, open_at, open_entry, opening_of, close_entry, closing_of, table_opened, table_closed, stand_entry, standing_of, rule_of, quarter_in, place_in, buffer_of, stored_in, place_of, sight_of, look_of, number, close_error, report_error, judged_error, flag_of, role_of, bit_of, side_of, status_of, error_number, end_number, varint_answer, written_answer, reader_mark, role_word, role_in, settings_number, draft_in, addresses_in, phase_words, words_of, phase_in, with_phase, reader_in, report_number, type_of, fed_report, fed_took, fed_answer, close_refusal, closed_answer, opened_at, open_words, words_fed, feed_loaded, feed_words, words_closed, closed_by, close_loaded, close_words, buffer_number, sight_answer, looked_answer, look_words, quarter_answer, stream_answer, ending_number, listing_answer, opened_answer, open_table, close_table, or_zero, delivered_answer, judged_answer, found_number, next_place, address_entry, blank_address, address_answered, address_found, route_entry, blank_route, route_answered, route_found, message_of, field_answer, action_answer, translation_answer, refuses, write_at, capsule_header, capsule_bytes, agreed, sending_record, sending_entry, sending_of, put_capsule, put_capsule_header, put_frame_header, frame_header_written, write_frame_header, wrote_by, SendingCases, Cases}
use Rattle.capsule.specs.Reader.{wrote}
use Rattle.stream_records.specs.Tables.{entry_at as stream_at}
use Rattle.reader_calls.specs.Reader as reader
use Rattle.stream_answers.specs.Table as table
use Rattle.wire.specs.Varint as varint

sending_cases : SendingCases
unfolding table.found_answer stand_entry standing_of is_request largest_quarter quarter_of flag both_closed is_blank is_bad_record holds any_bad stands_in stands_twice is_bad next find stream_at agreed sending_record sending_entry sending_of bytes_of varint.encode_as varint.least_width varint.encode capsule_header capsule_bytes put_capsule put_capsule_header put_frame_header frame_header_written write_frame_header refuses write_at written_answer wrote_by
sending_cases =
    record {
      standings = refl;
      finds = refl;
      frame_headers = refl;
      datagrams = refl;
      datagram_headers = refl;
    }

pub cases : Cases
unfolding buffer_of stored_in place_of sight_of look_of buffer_number sight_answer looked_answer look_words stream_of quarter_answer stream_answer flag_of role_of side_of status_of bit_of error_number number end_number message_of varint_answer written_answer report_number type_of length_of report_error fed_report fed_took fed_answer close_refusal closed_answer close_error reader_mark role_word role_in settings_number draft_in addresses_in phase_words words_of phase_in with_phase reader_in opened_at open_words words_fed reader.fed_by feed_loaded feed_words words_closed closed_by close_loaded close_words ending_number listing_answer opened_answer open_table table.closed_answer close_table or_zero rule_of quarter_in place_in judged_error delivered_answer judged_answer field_answer action_answer translation_answer read_varint size_of value_of num num_from largest bytes_of partial_of held_bytes starts is_partial taken_of take_varint is_address_type width_of ahead onwards entries_by entries all_of are_good address_at identified entry_at clear_beyond good_entry good_requests range_at good_value longest_address_value well_formed answer_for answer_at padded address_of next_address range_of next_range found_number next_place address_entry blank_address address_answered address_found route_entry blank_route route_answered route_found opted_by opted kind_of extent_by extent_of judged finishes finishes_in keeps_by keeps judged_in report_by report_of forwards_by forwards gathers_by gathers only_if output_verdict addresses_verdict lent_verdict is_opening open_of is_makeable_phase is_makeable verdict_of plan_value plan_head plan_length plan_type plan_of held_of wrote stored fed_by take_of feed_by feed_of end_at close_of is_request largest_quarter quarter_of flag both_closed is_blank is_bad_record holds without with_closed closed_side any_bad stands_in stands_twice is_bad next find stream_at lowest_free open_at open_entry opening_of close_entry closing_of table_opened table_closed
cases =
    record {
      flags = refl;
      roles = refl;
      sides = refl;
      statuses = refl;
      messages = refl;
      bits = refl;
      varints = refl;
      writings = refl;
      feedings = refl;
      closings = refl;
      first-words = refl;
      stored_forms = refl;
      other_words = refl;
      opens = refl;
      feeds = refl;
      closes = refl;
      looks = refl;
      looks_words = refl;
      founds = refl;
      addresses = refl;
      routes = refl;
      listings = refl;
      quarters = refl;
      stream-ids = refl;
      opens-stream = refl;
      closes_side = refl;
      judgements = refl;
      sendings = sending_cases;
      field_values = refl;
      translations = refl;
    }
