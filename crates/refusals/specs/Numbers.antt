-- Document 01, "Refusal numbers"; 18 and 26 are document 02's (request 4), 19 too (request 5).
use Rattle.std.specs.Prelude.{ℕ}
use Rattle.refusals.specs.declared.Refusal.{Refusal}

abbrev pub refusal : ℕ → Refusal
refusal n = record { 0 = n }

abbrev pub unmakeable_state : Refusal
unmakeable_state = refusal 1

abbrev pub finished : Refusal
finished = refusal 2

abbrev pub limit_too_large : Refusal
limit_too_large = refusal 3

abbrev pub gathering_too_short : Refusal
gathering_too_short = refusal 4

abbrev pub output_too_short : Refusal
output_too_short = refusal 5

abbrev pub number_too_large : Refusal
number_too_large = refusal 6

abbrev pub not_a_request_stream : Refusal
not_a_request_stream = refusal 7

abbrev pub no_free_place : Refusal
no_free_place = refusal 8

abbrev pub already_in_table : Refusal
already_in_table = refusal 9

abbrev pub not_in_table : Refusal
not_in_table = refusal 10

abbrev pub frames_not_agreed : Refusal
frames_not_agreed = refusal 11

abbrev pub send_side_closed : Refusal
send_side_closed = refusal 12

abbrev pub no_semantics : Refusal
no_semantics = refusal 13

abbrev pub frame_too_long : Refusal
frame_too_long = refusal 14

abbrev pub bad_table : Refusal
bad_table = refusal 15

abbrev pub buffer_too_long : Refusal
buffer_too_long = refusal 16

abbrev pub unknown_error_or_version : Refusal
unknown_error_or_version = refusal 17

abbrev pub addresses_too_short : Refusal
addresses_too_short = refusal 18

abbrev pub field_too_long : Refusal
field_too_long = refusal 19

abbrev pub malformed_to_write : Refusal
malformed_to_write = refusal 26
