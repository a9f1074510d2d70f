-- The numbers of include/maruzhenu.h: how arguments are read, and what answers say. One statement carries them: `Cases`, proved in proofs/Cases.antt.
use Rattle.refusals.specs.declared.Refusal.{Refusal}
use Rattle.capsule.specs.declared.reader.Ending.TheVariants.{Clean, Truncated}
use Rattle.capsule.specs.Reader.{taking}
use Rattle.one_shot_listing.specs.Listing.{count_of}
use Rattle.look.specs.declared.Sight.{Sight}
use Rattle.short_forms.specs.Short.{varint_of}
use Rattle.std.specs.Prelude.{ℕ, ◌+◌, ◌-◌, ◌^◌, ◌≡◌, Bool, true, false, List, [], ◌∷◌, ◌++◌, map, replicate, Some, None, Result, Ok, Err}
use Rattle.refusals.specs.Numbers.{refusal}
use Rattle.wire.specs.Partial.{partial}
use Rattle.wire.specs.Units.{quarter_of, stream_of}
use Rattle.opening.specs.declared.Role.{Role}
use Rattle.opening.specs.declared.Role.TheVariants.{Endpoint, Intermediary}
use Rattle.opening.specs.declared.Report.TheVariants.{Delivered, Dropped, Skipped, Passed, AddressDelivered, Malformed}
use Rattle.planning.specs.declared.Phase.{Phase}
use Rattle.planning.specs.declared.Phase.TheVariants.{InType, InLength, InValue}
use Rattle.capsule.specs.declared.reader.Reader.{Reader}
use Rattle.capsule.specs.Calls.{lent}
use Rattle.capsule.specs.Reader.{opening}
use Rattle.look.specs.declared.Buffer.TheVariants.{Neither, Gathering, Addresses}
use Rattle.look.specs.declared.Place.{Place}
use Rattle.look.specs.declared.Place.TheVariants as place
use Rattle.stream_records.specs.declared.record.Side.TheVariants.{Receive, Send}
use Rattle.stream_records.specs.declared.record.StreamRecord.{StreamRecord}
use Rattle.stream_records.specs.Tables.{Table, standing_of}
use Rattle.sending.specs.Sending.{put_capsule, put_capsule_header, write_frame_header}
use Rattle.judging.specs.declared.judge.Judged.TheVariants as judged
use Rattle.judging.specs.Judging.{quarter}
use Rattle.capsule.specs.declared.reader.Ending.TheVariants as ending
use Rattle.http_messages.specs.declared.messages.Message.TheVariants.{Request, Response}
use Rattle.http_errors.specs.declared.translation.Action.TheVariants as action
use Rattle.address_cursor.specs.Handing.{next_address, next_range}
use Rattle.answers.specs.declared.varint.VarintAnswer.{VarintAnswer}
use Rattle.answers.specs.declared.varint.WrittenAnswer.{WrittenAnswer}
use Rattle.reader_answers.specs.declared.reader.FedAnswer.{FedAnswer}
use Rattle.reader_answers.specs.declared.reader.ClosedAnswer.{ClosedAnswer}
use Rattle.reader_answers.specs.declared.sight.LookAnswer.{LookAnswer}
use Rattle.answers.specs.declared.identifiers.QuarterAnswer.{QuarterAnswer}
use Rattle.answers.specs.declared.identifiers.StreamIdAnswer.{StreamIdAnswer}
use Rattle.answers.specs.declared.one_shot.ListingAnswer.{ListingAnswer}
use Rattle.stream_answers.specs.declared.table.OpenedAnswer.{OpenedAnswer}
use Rattle.stream_answers.specs.declared.table.FoundAnswer.{FoundAnswer}
use Rattle.stream_answers.specs.declared.table.SideClosedAnswer.{SideClosedAnswer}
use Rattle.stream_answers.specs.declared.frames.JudgedAnswer.{JudgedAnswer}
use Rattle.answers.specs.declared.messages.TranslationAnswer.{TranslationAnswer}
use Rattle.answers.specs.declared.address_capsules.AddressFound.{AddressFound}
use Rattle.answers.specs.declared.address_capsules.RouteFound.{RouteFound}
use Rattle.reader_words.specs.Numbers.{flag_of, role_of, bit_of}
use Rattle.answers.specs.Numbers.{side_of, status_of}
use Rattle.answers.specs.Varint.{varint_answer, written_answer}
use Rattle.capi.specs.Varint.{Answered, wrote, wrote_by}
use Rattle.reader_words.specs.Words.{role_word, words_of, reader_in}
use Rattle.reader_calls.specs.Reader as reader
use Rattle.reader_answers.specs.Reader.{fed_answer, closed_answer}
use Rattle.reader_calls.specs.Reader.{open_words, feed_words, close_words}
use Rattle.reader_answers.specs.Sight.{looked_answer}
use Rattle.capi.specs.Sight.{look_words}
use Rattle.answers.specs.Identifiers.{quarter_answer, stream_answer}
use Rattle.answers.specs.OneShot.{listing_answer}
use Rattle.capi.specs.Table as table
use Rattle.stream_answers.specs.Table.{found_answer}
use Rattle.capi.specs.Table.{stream_id_of, open_table, close_table}
use Rattle.stream_answers.specs.Frames.{judged_answer}
use Rattle.answers.specs.AddressCapsules.{found_number, cursor, address_found, route_found}
use Rattle.answers.specs.Messages.{message_of, field_said, field_answer, translation_answer}

-- a table of cases: what is got, and what is expected
abbrev Agree : {A : Type 0} → List (A × A) → Type 0
Agree cases = map (λ c. c.0) cases ≡ map (λ c. c.1) cases

-- ---- answers, their fields in the header's order

abbrev varint : ℕ → ℕ → VarintAnswer
varint value size = record { value = value; size = size }

abbrev wrote_so : ℕ → ℕ → WrittenAnswer
wrote_so refusal count = record { refusal = refusal; written = count }

abbrev fed_so : ℕ → ℕ → ℕ → ℕ → ℕ → ℕ → ℕ → FedAnswer
fed_so refusal consumed count report t n error = record { refusal = refusal; consumed = consumed; written = count; report = report; ctype = t; length = n; error = error }

abbrev closed_so : ℕ → ℕ → ℕ → ClosedAnswer
closed_so refusal end error = record { refusal = refusal; end = end; error = error }

abbrev look_so : ℕ → ℕ → ℕ → ℕ → ℕ → ℕ → ℕ → ℕ → ℕ → LookAnswer
look_so refusal finished limit field t n to_come gathered buffer =
    record { refusal = refusal; finished = finished; datagram_limit = limit; field = field; capsule_type = t; length = n; to_come = to_come; gathered = gathered; buffer = buffer }

abbrev quarter_so : ℕ → ℕ → QuarterAnswer
quarter_so refusal q = record { refusal = refusal; quarter = q }

abbrev stream_id_so : ℕ → ℕ → StreamIdAnswer
stream_id_so too_large id = record { too_large = too_large; stream_id = id }

abbrev listed_so : ℕ → ℕ → ℕ → ℕ → ListingAnswer
listed_so refusal capsules headers end = record { refusal = refusal; capsules = capsules; headers = headers; end = end }

abbrev opened_so : ℕ → ℕ → OpenedAnswer
opened_so refusal place = record { refusal = refusal; place = place }

abbrev side_closed_so : ℕ → ℕ → ℕ → SideClosedAnswer
side_closed_so refusal place freed = record { refusal = refusal; place = place; freed = freed }

abbrev judged_so : ℕ → ℕ → ℕ → ℕ → ℕ → ℕ → ℕ → JudgedAnswer
judged_so refusal rule quarter place start n error = record { refusal = refusal; rule = rule; quarter = quarter; place = place; start = start; length = n; error = error }

-- a record: its quarter and its flags
abbrev rec : ℕ → ℕ → StreamRecord
rec q flags = record { quarter = record { 0 = q }; flags = flags }

abbrev translated_so : ℕ → ℕ → ℕ → TranslationAnswer
translated_so refusal kind code = record { refusal = refusal; action = kind; code = code }

-- ---- readers and their words

abbrev state : Role → ℕ → Bool → Bool → Phase → Bool → Reader
state role limit draft addresses phase finished = record { opening = opening role limit draft addresses; phase = phase; finished = finished }

-- "mrz", and the role's number in the last byte
abbrev marked : ℕ → ℕ
marked role = 0x6d727a00 + role

abbrev words : ℕ → ℕ → ℕ → ℕ → ℕ → ℕ → ℕ → ℕ → List ℕ
words role limit draft phase a b c finished = marked role ∷ limit ∷ draft ∷ phase ∷ a ∷ b ∷ c ∷ finished ∷ []

abbrev seen : Bool → Place → Result Sight Refusal
seen finished at = Ok (record { finished = finished; limit = 1200; place = at })

abbrev nines : ℕ → List ℕ
nines n = replicate n 9

-- ---- entries

abbrev zeros : ℕ → List ℕ
zeros n = replicate n 0

-- ID 3, 10.0.0.1/32
abbrev an_address : List ℕ
an_address = 3 ∷ 4 ∷ 10 ∷ 0 ∷ 0 ∷ 1 ∷ 32 ∷ []

-- 10.0.0.1 to 10.0.0.9, UDP
abbrev a_range : List ℕ
a_range = 4 ∷ 10 ∷ 0 ∷ 0 ∷ 1 ∷ 10 ∷ 0 ∷ 0 ∷ 9 ∷ 17 ∷ []

abbrev address_so : ℕ → ℕ → ℕ → ℕ → ℕ → List ℕ → AddressFound
address_so found next id version prefix bytes =
    record { found = found; next = next; address = record { id = id; version = version; prefix = prefix; address = bytes; reserved = zeros 6 } }

abbrev route_so : ℕ → ℕ → ℕ → ℕ → List ℕ → List ℕ → RouteFound
route_so found next version protocol start end =
    record { found = found; next = next; route = record { version = version; protocol = protocol; start = start; end = end } }

abbrev all : ℕ
all = 2 ^ 64 - 1

-- finding a stream, and the writers of headers and of capsules without a table
abbrev standing_so : ℕ → ℕ → FoundAnswer
standing_so refusal place = record { refusal = refusal; place = place }

abbrev streams : Table
streams = rec 0 0 ∷ rec 64 15 ∷ rec 5 11 ∷ []

abbrev stands : Table → ℕ → FoundAnswer
stands t id = found_answer (standing_of t (table.stream_id_of id))

-- for stream 256, whose quarter 64 has two bytes, into four bytes
abbrev header : ℕ → ℕ → ℕ → ℕ → Answered
header peer path n place = wrote_by (write_frame_header streams (table.stream_id_of 256) 1 peer path n (nines 4) place)

pub record SendingCases : Type 0 where
  pub standings : map found_answer (Err (refusal 10) ∷ Ok 0 ∷ Ok 63 ∷ []) ≡ standing_so 10 0 ∷ standing_so 0 0 ∷ standing_so 0 63 ∷ []
  -- at places 1 and 2; not there, no request stream; a bad table
  pub finds :
      Agree
      ((stands streams 256, standing_so 0 1)
      ∷ (stands streams 20, standing_so 0 2)
      ∷ (stands streams 0, standing_so 10 0)
      ∷ (stands streams 257, standing_so 7 0)
      ∷ (stands (rec 5 1 ∷ []) 20, standing_so 15 0)
      ∷ [])
  -- written; refused: settings, length, path size, output, side
  pub frame_headers :
      Agree
      ((header 1 1002 1000 1, wrote (wrote_so 0 2) (9 ∷ 0x40 ∷ 0x40 ∷ 9 ∷ []))
      ∷ (header 0 1002 1000 1, wrote (wrote_so 11 0) (nines 4))
      ∷ (header 1 70000 65536 1, wrote (wrote_so 6 0) (nines 4))
      ∷ (header 1 1001 1000 1, wrote (wrote_so 14 0) (nines 4))
      ∷ (header 1 1002 1000 3, wrote (wrote_so 5 0) (nines 4))
      ∷ (wrote_by (write_frame_header streams (table.stream_id_of 20) 1 1 1200 4 (nines 4) 0), wrote (wrote_so 12 0) (nines 4))
      ∷ [])
  pub datagrams :
      map (λ n. wrote_by (put_capsule (7 ∷ 8 ∷ []) (nines 6) n)) (1 ∷ 3 ∷ all ∷ []) ≡ wrote (wrote_so 0 4) (9 ∷ 0 ∷ 2 ∷ 7 ∷ 8 ∷ 9 ∷ []) ∷ wrote (wrote_so 5 0) (nines 6) ∷ wrote (wrote_so 5 0) (nines 6) ∷ []
  pub datagram_headers :
      map (λ n. wrote_by (put_capsule_header n (nines 4) 1)) (2 ∷ 300 ∷ 65535 ∷ 65536 ∷ [])
      ≡ wrote (wrote_so 0 2) (9 ∷ 0 ∷ 2 ∷ 9 ∷ []) ∷ wrote (wrote_so 0 3) (9 ∷ 0 ∷ 0x41 ∷ 0x2c ∷ []) ∷ wrote (wrote_so 5 0) (nines 4) ∷ wrote (wrote_so 6 0) (nines 4) ∷ []

pub record Cases : Type 0 where
  -- "Readings of numbers"
  pub flags : map flag_of (0 ∷ 1 ∷ 2 ∷ all ∷ []) ≡ false ∷ true ∷ true ∷ true ∷ []
  pub roles : map role_of (0 ∷ 1 ∷ 2 ∷ all ∷ []) ≡ Endpoint ∷ Intermediary ∷ Intermediary ∷ Intermediary ∷ []
  pub sides : map side_of (0 ∷ 1 ∷ 2 ∷ all ∷ []) ≡ Receive ∷ Send ∷ Send ∷ Send ∷ []
  -- 65,740 is 65,536 + 204
  pub statuses : map status_of (0 ∷ 204 ∷ 65535 ∷ 65536 ∷ 65740 ∷ []) ≡ 0 ∷ 204 ∷ 65535 ∷ 0 ∷ 0 ∷ []
  pub messages : message_of 0 204 ∷ message_of 1 204 ∷ message_of 2 65740 ∷ [] ≡ Request ∷ Response 204 ∷ Response 0 ∷ []
  pub bits : map bit_of (false ∷ true ∷ []) ≡ 0 ∷ 1 ∷ []
  -- varints
  pub varints : map varint_answer (None ∷ Some (varint_of 37 2) ∷ []) ≡ varint 0 0 ∷ varint 37 2 ∷ []
  pub writings :
      map written_answer (Err (refusal 5) ∷ Err (refusal 26) ∷ Ok 3 ∷ []) ≡ wrote_so 5 0 ∷ wrote_so 26 0 ∷ wrote_so 0 3 ∷ []
  -- feeding: refused; nothing ended, delivered, dropped, skipped, passed; an address capsule delivered, a malformed one
  pub feedings :
      map fed_answer
      (Err (refusal 4)
      ∷ Ok (taking 7 6 None)
      ∷ Ok (taking 7 6 (Some (Delivered 5)))
      ∷ Ok (taking 7 6 (Some (Dropped 5)))
      ∷ Ok (taking 7 6 (Some (Skipped 23 5)))
      ∷ Ok (taking 7 6 (Some (Passed 23 5)))
      ∷ Ok (taking 7 6 (Some (AddressDelivered 3 5)))
      ∷ Ok (taking 7 6 (Some (Malformed 3 5)))
      ∷ [])
      ≡ fed_so 4 0 0 0 0 0 0
      ∷ fed_so 0 7 6 0 0 0 0
      ∷ fed_so 0 7 6 1 0 5 0
      ∷ fed_so 0 7 6 2 0 5 0
      ∷ fed_so 0 7 6 3 23 5 0
      ∷ fed_so 0 7 6 4 23 5 0
      ∷ fed_so 0 7 6 5 3 5 0
      ∷ fed_so 0 7 6 6 3 5 7
      ∷ []
  pub closings :
      map closed_answer (Err (refusal 2) ∷ (Ok Clean) ∷ (Ok Truncated) ∷ []) ≡ closed_so 2 0 0 ∷ closed_so 0 1 0 ∷ closed_so 0 2 1 ∷ []
  -- the two first words, and the words of a reader in each phase
  pub first-words : map role_word (Endpoint ∷ Intermediary ∷ []) ≡ 0x6d727a00 ∷ 0x6d727a01 ∷ []
  pub stored_forms :
      map words_of
      (state Endpoint 1200 false false (InType (partial 1 0x40)) false
      ∷ state Intermediary 1200 false true (InLength 5 (partial 1 0x40)) false
      ∷ state Endpoint 1200 true false (InValue 5 8 3) true
      ∷ state Endpoint 1200 true true (InValue 5 8 3) true
      ∷ [])
      ≡ words 0 1200 0 0 1 0x40 0 0 ∷ words 1 1200 2 1 5 1 0x40 0 ∷ words 0 1200 1 2 5 8 3 1 ∷ words 0 1200 3 2 5 8 3 1 ∷ []
  -- no mark, the numbers beside the two first words; settings, a finished mark and a phase that are none; a word that is not used; a count of bytes above 255
  pub other_words :
      map reader_in
      (zeros 8
      ∷ (1 ∷ zeros 7)
      ∷ (0x6d7279ff ∷ zeros 7)
      ∷ words 2 0 0 0 0 0 0 0
      ∷ words 0 0 4 0 0 0 0 0
      ∷ words 0 0 0 0 0 0 0 2
      ∷ words 0 0 0 3 0 0 0 0
      ∷ words 0 0 0 0 0 0 1 0
      ∷ words 0 0 0 0 256 0 0 0
      ∷ words 0 0 0 1 5 256 0 0
      ∷ [])
      ≡ replicate 10 None
  pub opens :
      Agree
      ((open_words (nines 8) 1 65535 2 0, reader.opened 0 (words 1 65535 1 0 0 0 0 0))
      ∷ (open_words (nines 8) 0 65535 0 2, reader.opened 0 (words 0 65535 2 0 0 0 0 0))
      ∷ (open_words (nines 8) 0 65536 0 1, reader.opened 3 (nines 8))
      ∷ [])
  -- a value begun, and words that are no reader's
  -- an endpoint that takes address capsules: a second buffer of 1,023 bytes, a good value, a REQUEST with no entry, and a feeding after it
  -- type 2 at an endpoint that does not take it
  pub feeds :
      Agree
      ((feed_words (words 0 6 0 0 0 0 0 0) (0 ∷ 5 ∷ 0x61 ∷ 0x62 ∷ []) (lent (nines 7) [] []), reader.fed (fed_so 0 4 0 0 0 0 0) (words 0 6 0 2 0 5 3 0) (lent (0x61 ∷ 0x62 ∷ nines 5) [] []))
      ∷ (feed_words (nines 8) (0 ∷ []) (lent [] [] []), reader.fed (fed_so 1 0 0 0 0 0 0) (nines 8) (lent [] [] []))
      ∷ (feed_words (words 0 6 2 0 0 0 0 0) [] (lent (nines 6) (nines 1023) []), reader.fed (fed_so 18 0 0 0 0 0 0) (words 0 6 2 0 0 0 0 0) (lent (nines 6) (nines 1023) []))
      ∷ (feed_words (words 0 6 2 0 0 0 0 0) (1 ∷ 7 ∷ (an_address ++ (9 ∷ []))) (lent (nines 6) (nines 1024) []), reader.fed (fed_so 0 9 0 5 1 7 0) (words 0 6 2 0 0 0 0 0) (lent (nines 6) (an_address ++ nines 1017) []))
      ∷ (feed_words (words 0 6 2 0 0 0 0 0) (2 ∷ 0 ∷ 0 ∷ 0 ∷ []) (lent (nines 6) (nines 1024) []), reader.fed (fed_so 0 2 0 6 2 0 7) (words 0 6 2 0 0 0 0 1) (lent (nines 6) (nines 1024) []))
      ∷ (feed_words (words 0 6 2 0 0 0 0 1) [] (lent (nines 6) (nines 1024) []), reader.fed (fed_so 2 0 0 0 0 0 0) (words 0 6 2 0 0 0 0 1) (lent (nines 6) (nines 1024) []))
      ∷ (feed_words (words 0 6 0 0 0 0 0 0) (2 ∷ 0 ∷ []) (lent (nines 6) [] []), reader.fed (fed_so 0 2 0 3 2 0 0) (words 0 6 0 0 0 0 0 0) (lent (nines 6) [] []))
      ∷ [])
  pub closes :
      Agree
      ((close_words (words 0 6 0 2 0 5 3 0), reader.closed (closed_so 0 2 1) (words 0 6 0 2 0 5 3 1))
      ∷ (close_words (words 0 6 0 0 0 0 0 0), reader.closed (closed_so 0 1 0) (words 0 6 0 0 0 0 0 1))
      ∷ (close_words (words 0 6 0 0 0 0 0 1), reader.closed (closed_so 2 0 0) (words 0 6 0 0 0 0 0 1))
      ∷ (close_words (nines 8), reader.closed (closed_so 1 0 0) (nines 8))
      ∷ [])
  -- a look: refused; each field, and each buffer
  pub looks :
      map looked_answer
      (Err (refusal 1)
      ∷ seen false place.Between
      ∷ seen true place.InType
      ∷ seen false (place.InLength 23)
      ∷ seen false (place.InValue 23 9 4 0 Neither)
      ∷ seen false (place.InValue 23 9 4 5 Gathering)
      ∷ seen true (place.InValue 23 9 4 5 Addresses)
      ∷ [])
      ≡ look_so 1 0 0 0 0 0 0 0 0
      ∷ look_so 0 0 1200 0 0 0 0 0 0
      ∷ look_so 0 1 1200 1 0 0 0 0 0
      ∷ look_so 0 0 1200 2 23 0 0 0 0
      ∷ look_so 0 0 1200 3 23 9 4 0 0
      ∷ look_so 0 0 1200 3 23 9 4 5 1
      ∷ look_so 0 1 1200 3 23 9 4 5 2
      ∷ []
  -- of words: in a value that is gathered, in an address capsule; a state that no calls make, and no reader's words
  pub looks_words :
      map look_words (words 0 6 0 2 0 5 3 0 ∷ words 0 6 2 2 1 7 4 1 ∷ words 0 65536 0 0 0 0 0 0 ∷ zeros 8 ∷ [])
      ≡ look_so 0 0 6 3 0 5 3 2 1 ∷ look_so 0 1 6 3 1 7 4 3 2 ∷ look_so 1 0 0 0 0 0 0 0 0 ∷ look_so 1 0 0 0 0 0 0 0 0 ∷ []
  -- entries of a value: found, none at the end and behind it, malformed
  pub founds : map (found_number {A = ℕ}) (Ok None ∷ Ok (Some (record { entry = 0; next = cursor 0 })) ∷ Err (record {}) ∷ []) ≡ 0 ∷ 1 ∷ 2 ∷ []
  pub addresses :
      map (λ n. address_found (cursor n) (next_address (an_address ++ (5 ∷ [])) (cursor n))) (0 ∷ 7 ∷ 8 ∷ 9 ∷ [])
      ≡ address_so 1 7 3 4 32 (10 ∷ 0 ∷ 0 ∷ 1 ∷ zeros 12) ∷ address_so 2 7 0 0 0 (zeros 16) ∷ address_so 0 8 0 0 0 (zeros 16) ∷ address_so 0 9 0 0 0 (zeros 16) ∷ []
  pub routes :
      map (λ n. route_found (cursor n) (next_range (a_range ++ (5 ∷ [])) (cursor n))) (0 ∷ 10 ∷ 11 ∷ 12 ∷ [])
      ≡ route_so 1 10 4 17 (10 ∷ 0 ∷ 0 ∷ 1 ∷ zeros 12) (10 ∷ 0 ∷ 0 ∷ 9 ∷ zeros 12)
      ∷ route_so 2 10 0 0 (zeros 16) (zeros 16)
      ∷ route_so 0 11 0 0 (zeros 16) (zeros 16)
      ∷ route_so 0 12 0 0 (zeros 16) (zeros 16)
      ∷ []
  pub listings :
      map listing_answer (Err (refusal 16) ∷ Ok (count_of 4 9 ending.Clean) ∷ Ok (count_of 4 9 ending.Truncated) ∷ [])
      ≡ listed_so 16 0 0 0 ∷ listed_so 0 4 9 1 ∷ listed_so 0 4 9 2 ∷ []
  -- stream IDs: the smallest and the largest of a request stream, others, and numbers that are none
  pub quarters :
      map (λ id. quarter_answer (quarter_of (stream_id_of id))) (0 ∷ 4 ∷ 5 ∷ (2 ^ 62 - 4) ∷ (2 ^ 62 - 1) ∷ (2 ^ 62) ∷ (2 ^ 64 - 4) ∷ [])
      ≡ quarter_so 0 0 ∷ quarter_so 0 1 ∷ quarter_so 7 0 ∷ quarter_so 0 (2 ^ 60 - 1) ∷ quarter_so 7 0 ∷ quarter_so 7 0 ∷ quarter_so 7 0 ∷ []
  pub stream-ids :
      map (λ q. stream_answer (stream_of (quarter q))) (0 ∷ 1 ∷ (2 ^ 60 - 1) ∷ (2 ^ 60) ∷ all ∷ [])
      ≡ stream_id_so 0 0 ∷ stream_id_so 0 4 ∷ stream_id_so 0 (2 ^ 62 - 4) ∷ stream_id_so 1 0 ∷ stream_id_so 1 0 ∷ []
  -- tables: semantics asked for by 2, and not; a stream that is there
  pub opens-stream :
      Agree
      ((open_table (rec 5 3 ∷ rec 0 0 ∷ []) 4 2, table.opened (opened_so 0 1) (rec 5 3 ∷ rec 1 15 ∷ []))
      ∷ (open_table (rec 5 3 ∷ rec 0 0 ∷ []) 4 0, table.opened (opened_so 0 1) (rec 5 3 ∷ rec 1 7 ∷ []))
      ∷ (open_table (rec 5 3 ∷ rec 0 0 ∷ []) 20 0, table.opened (opened_so 9 0) (rec 5 3 ∷ rec 0 0 ∷ []))
      ∷ [])
  -- the send side closed by 2, which frees the place, and by 1, which does not; the receive side; a stream that is not there
  pub closes_side :
      Agree
      ((close_table (rec 1 15 ∷ rec 5 13 ∷ []) 20 2, table.closed (side_closed_so 0 1 1) (rec 1 15 ∷ rec 0 0 ∷ []))
      ∷ (close_table (rec 1 15 ∷ rec 5 15 ∷ []) 20 1, table.closed (side_closed_so 0 1 0) (rec 1 15 ∷ rec 5 11 ∷ []))
      ∷ (close_table (rec 1 15 ∷ rec 5 15 ∷ []) 20 0, table.closed (side_closed_so 0 1 0) (rec 1 15 ∷ rec 5 13 ∷ []))
      ∷ (close_table (rec 1 15 ∷ []) 20 0, table.closed (side_closed_so 10 0 0) (rec 1 15 ∷ []))
      ∷ [])
  -- a refusal, and rules 1 to 8, of a frame whose quarter has two bytes
  pub judgements :
      map (judged_answer (0x40 ∷ 1 ∷ 7 ∷ 8 ∷ 9 ∷ []))
      (Err (refusal 15)
      ∷ (Ok judged.ShortFrame)
      ∷ (Ok (judged.QuarterTooLarge (quarter 5)))
      ∷ (Ok (judged.BeyondLimit (quarter 6)))
      ∷ (Ok (judged.NoStream (quarter 7)))
      ∷ (Ok (judged.ReceiveClosed (quarter 8) 1))
      ∷ (Ok (judged.NoSemantics (quarter 9) 2))
      ∷ (Ok (judged.TooLong (quarter 10) 3))
      ∷ (Ok (judged.Delivered (quarter 11) 4))
      ∷ [])
      ≡ judged_so 15 0 0 0 0 0 0
      ∷ judged_so 0 1 0 0 0 0 3
      ∷ judged_so 0 2 5 0 0 0 4
      ∷ judged_so 0 3 6 0 0 0 5
      ∷ judged_so 0 4 7 0 0 0 0
      ∷ judged_so 0 5 8 1 0 0 0
      ∷ judged_so 0 6 9 2 0 0 2
      ∷ judged_so 0 7 10 3 0 0 0
      ∷ judged_so 0 8 11 4 2 3 0
      ∷ []
  pub sendings : SendingCases
  pub field_values :
      map field_answer (Err (refusal 19) ∷ (Ok true) ∷ (Ok false) ∷ []) ≡ field_said 19 0 ∷ field_said 0 1 ∷ field_said 0 0 ∷ []
  pub translations :
      map translation_answer
      (Err (refusal 17)
      ∷ Ok None
      ∷ Ok (Some (action.Close (record { 0 = 0 })))
      ∷ Ok (Some (action.StreamError (record { 0 = 0x010e })))
      ∷ Ok (Some (action.ConnectionError (record { 0 = 0x33 })))
      ∷ [])
      ≡ translated_so 17 0 0 ∷ translated_so 0 0 0 ∷ translated_so 0 1 0 ∷ translated_so 0 2 0x010e ∷ translated_so 0 3 0x33 ∷ []
