-- The numbers decide the answer: read as include/maruzhenu.h says, each answer in numbers is the answer that it was made from, at every value. Proved in proofs/Told.antt.
use Rattle.capsule.specs.declared.reader.Ending.{Ending}
use Rattle.capsule.specs.declared.reader.Ending.TheVariants.{Clean, Truncated}
use Rattle.opening.specs.declared.Report.{Report}
use Rattle.http_messages.specs.declared.errors.HttpError.{HttpError}
use Rattle.capsule.specs.declared.reader.Advance.{Advance}
use Rattle.capsule.specs.Reader.{taking}
use Rattle.std.specs.Prelude.{true, false}
use Rattle.one_shot_listing.specs.declared.Counted.{Counted}
use Rattle.one_shot_listing.specs.Listing.{count_of}
use Rattle.look.specs.declared.Sight.{Sight}
use Rattle.stream_records.specs.Tables.{side_closed}
use Rattle.wire.specs.declared.units.StreamId.{StreamId}
use Rattle.http_errors.specs.declared.translation.Action.{Action}
use Rattle.short_forms.specs.declared.Varint.{Varint}
use Rattle.short_forms.specs.Short.{varint_of}
use Prim.{Unit}
use Rattle.std.specs.Prelude.{ℕ, ◌-◌, ◌<◌, ◌≡◌, Bool, cond, List, [], ◌∷◌, length, get_or, replicate, eqb, Option, Some, None, Result, Ok, Err}
use Rattle.refusals.specs.declared.Refusal.{Refusal}
use Rattle.refusals.specs.Numbers.{refusal}
use Rattle.wire.specs.declared.units.Quarter.{Quarter}
use Rattle.wire.specs.Varint.{read_varint}
use Rattle.opening.specs.declared.Report.TheVariants.{Delivered, Dropped, Skipped, Passed, AddressDelivered, Malformed}
use Rattle.capsule.specs.declared.reader.Reader.{Reader}
use Rattle.stream_records.specs.declared.answers.SideClosed.{SideClosed}
use Rattle.judging.specs.declared.judge.Judged.{Judged}
use Rattle.judging.specs.declared.judge.Judged.TheVariants as judged
use Rattle.judging.specs.Judging.{quarter}
use Rattle.look.specs.declared.Buffer.TheVariants.{Neither, Gathering, Addresses}
use Rattle.look.specs.declared.Place.{Place}
use Rattle.look.specs.declared.Place.TheVariants as place
use Rattle.capsule.specs.declared.reader.Ending.TheVariants as ending
use Rattle.http_errors.specs.declared.translation.Action.TheVariants as action
use Rattle.http_errors.specs.Translation.{code}
use Rattle.address_cursor.specs.declared.Address.{Address}
use Rattle.address_cursor.specs.declared.AddressRange.{AddressRange}
use Rattle.address_cursor.specs.declared.Cursor.{Cursor}
use Rattle.address_cursor.specs.Handing.{Answer}
use Rattle.answers.specs.declared.varint.VarintAnswer.{VarintAnswer}
use Rattle.answers.specs.declared.varint.WrittenAnswer.{WrittenAnswer}
use Rattle.reader_answers.specs.declared.reader.FedAnswer.{FedAnswer}
use Rattle.reader_answers.specs.declared.reader.ClosedAnswer.{ClosedAnswer}
use Rattle.reader_answers.specs.declared.sight.LookAnswer.{LookAnswer}
use Rattle.answers.specs.declared.identifiers.QuarterAnswer.{QuarterAnswer}
use Rattle.answers.specs.declared.identifiers.StreamIdAnswer.{StreamIdAnswer}
use Rattle.answers.specs.declared.one_shot.ListingAnswer.{ListingAnswer}
use Rattle.stream_answers.specs.declared.table.OpenedAnswer.{OpenedAnswer}
use Rattle.stream_answers.specs.declared.table.FoundAnswer.{FoundAnswer}
use Rattle.stream_answers.specs.declared.table.SideClosedAnswer.{SideClosedAnswer}
use Rattle.stream_answers.specs.declared.frames.JudgedAnswer.{JudgedAnswer}
use Rattle.answers.specs.declared.messages.FieldAnswer.{FieldAnswer}
use Rattle.answers.specs.declared.messages.TranslationAnswer.{TranslationAnswer}
use Rattle.answers.specs.declared.address_capsules.AddressFound.{AddressFound}
use Rattle.answers.specs.declared.address_capsules.RouteFound.{RouteFound}
use Rattle.reader_words.specs.Numbers.{bit_of}
use Rattle.answers.specs.Numbers.{error_number}
use Rattle.answers.specs.Varint.{varint_answer, written_answer}
use Rattle.reader_words.specs.Words.{words_of}
use Rattle.reader_answers.specs.Reader as reader
use Rattle.reader_answers.specs.Reader.{fed_answer}
use Rattle.reader_calls.specs.Reader.{opened_at, opened}
use Rattle.stream_answers.specs.Table as table
use Rattle.stream_answers.specs.Table.{opened_answer, found_answer}
use Rattle.capi.specs.Table.{stream_id_of}
use Rattle.stream_answers.specs.Frames.{judged_answer}
use Rattle.reader_answers.specs.Sight.{looked_answer}
use Rattle.answers.specs.Identifiers.{quarter_answer, stream_answer}
use Rattle.answers.specs.OneShot.{listing_answer}
use Rattle.answers.specs.AddressCapsules.{cursor, blank_address, address_found, blank_route, route_found}
use Rattle.answers.specs.Messages.{field_answer, translation_answer}
use Rattle.capi.specs.Claims.{Numbered}

-- ---- readings of answers

-- refusal 0 is none
unfoldable pub refused_or : {A : Type 0} → ℕ → (Refusal → A) → A → A
refused_or n refused other = cond (eqb n 0) other (refused (refusal n))

unfoldable pub bit_in : ℕ → Bool
bit_in n = eqb n 1

unfoldable pub error_in : ℕ → Option HttpError
error_in n = cond (eqb n 0) None (Some (record { 0 = n }))

unfoldable pub varint_in : VarintAnswer → Option Varint
varint_in a = cond (eqb a.size 0) None (Some (varint_of a.value a.size))

unfoldable pub written_in : WrittenAnswer → Result ℕ Refusal
written_in a = refused_or a.refusal Err (Ok a.written)

-- by the report's number, 0 first
unfoldable pub ended_in : ℕ → ℕ → ℕ → Option Report
ended_in report t n =
    get_or
    (None
    ∷ Some (Delivered n)
    ∷ Some (Dropped n)
    ∷ Some (Skipped t n)
    ∷ Some (Passed t n)
    ∷ Some (AddressDelivered t n)
    ∷ Some (Malformed t n)
    ∷ [])
    report
    None

unfoldable pub fed_in : FedAnswer → Result Advance Refusal
fed_in a = refused_or a.refusal Err (Ok (taking a.consumed a.written (ended_in a.report a.ctype a.length)))

unfoldable pub closed_in : ClosedAnswer → Result Ending Refusal
closed_in a = refused_or a.refusal Err (cond (eqb a.end 1) (Ok Clean) (Ok Truncated))

-- by the field's number
unfoldable pub place_in : LookAnswer → Place
place_in a =
    get_or
    (place.Between
    ∷ place.InType
    ∷ place.InLength a.capsule_type
    ∷ place.InValue a.capsule_type a.length a.to_come a.gathered (get_or (Neither ∷ Gathering ∷ Addresses ∷ []) a.buffer Neither)
    ∷ [])
    a.field
    place.Between

unfoldable pub looked_in : LookAnswer → Result Sight Refusal
looked_in a = refused_or a.refusal Err (Ok (record { finished = bit_in a.finished; limit = a.datagram_limit; place = place_in a }))

unfoldable pub quarter_in : QuarterAnswer → Option Quarter
quarter_in a = cond (eqb a.refusal 7) None (Some (quarter a.quarter))

unfoldable pub stream_in : StreamIdAnswer → Option StreamId
stream_in a = cond (bit_in a.too_large) None (Some (stream_id_of a.stream_id))

unfoldable pub listed_in : ListingAnswer → Result Counted Refusal
listed_in a = refused_or a.refusal Err (Ok (count_of a.capsules a.headers (cond (eqb a.end 1) ending.Clean ending.Truncated)))

unfoldable pub opened_in : OpenedAnswer → Result ℕ Refusal
opened_in a = refused_or a.refusal Err (Ok a.place)

unfoldable pub side_closed_in : SideClosedAnswer → Result SideClosed Refusal
side_closed_in a = refused_or a.refusal Err (Ok (side_closed a.place (bit_in a.freed)))

unfoldable pub standing_in : FoundAnswer → Result ℕ Refusal
standing_in a = refused_or a.refusal Err (Ok a.place)

-- by the rule's number; there is no rule 0
unfoldable pub rule_in : ℕ → Quarter → ℕ → Result Judged Refusal
rule_in rule q i =
    get_or
    ((Ok judged.ShortFrame)
    ∷ (Ok judged.ShortFrame)
    ∷ (Ok (judged.QuarterTooLarge q))
    ∷ (Ok (judged.BeyondLimit q))
    ∷ (Ok (judged.NoStream q))
    ∷ (Ok (judged.ReceiveClosed q i))
    ∷ (Ok (judged.NoSemantics q i))
    ∷ (Ok (judged.TooLong q i))
    ∷ (Ok (judged.Delivered q i))
    ∷ [])
    rule
    (Ok judged.ShortFrame)

unfoldable pub judged_in : JudgedAnswer → Result Judged Refusal
judged_in a = refused_or a.refusal Err (rule_in a.rule (quarter a.quarter) a.place)

unfoldable pub field_in : FieldAnswer → Result Bool Refusal
field_in a = refused_or a.refusal Err (cond (bit_in a.in_use) (Ok true) (Ok false))

-- by the action's number
unfoldable pub translation_in : TranslationAnswer → Result (Option Action) Refusal
translation_in a =
    let c = code a.code in
    refused_or a.refusal Err
    (Ok (get_or (None ∷ Some (action.Close c) ∷ Some (action.StreamError c) ∷ Some (action.ConnectionError c) ∷ []) a.action None))

-- by the number of what was found
unfoldable pub found_in : {A : Type 0} → ℕ → A → Cursor → Answer A
found_in n entry next = get_or (Ok None ∷ Ok (Some (record { entry = entry; next = next })) ∷ Err (record {}) ∷ []) n (Ok None)

unfoldable pub address_in : AddressFound → Answer Address
address_in a =
    found_in a.found
    (record { id = a.address.id; version = a.address.version; prefix = a.address.prefix; bytes = a.address.address })
    (cursor a.next)

unfoldable pub range_in : RouteFound → Answer AddressRange
range_in a =
    found_in a.found
    (record { version = a.route.version; protocol = a.route.protocol; start = a.route.start; end = a.route.end })
    (cursor a.next)

-- ---- what is told

-- no varint has size 0 (`sizes`), and no error has number 0
abbrev pub VarintSo : Option Varint → Type 0
VarintSo None = Unit {0}
VarintSo (Some read) = read.size ≡ 0 → ⊥

abbrev pub ErrorSo : Option HttpError → Type 0
ErrorSo None = Unit {0}
ErrorSo (Some e) = e.0 ≡ 0 → ⊥

-- of refusals that are not 0: all that the calls make (`NumberedRefusals`)
pub record AnswersTold : Type 0 where
  pub bits : (b : Bool) → bit_in (bit_of b) ≡ b
  pub errors : (e : Option HttpError) → ErrorSo e → error_in (error_number e) ≡ e
  pub varints : (a : Option Varint) → VarintSo a → varint_in (varint_answer a) ≡ a
  pub sizes : (s : List ℕ) → VarintSo (read_varint s)
  pub writings : (a : Result ℕ Refusal) → Numbered Err a → written_in (written_answer a) ≡ a
  pub refused_openings : (ws : List ℕ) (why : Refusal) → opened_at ws (Err why) ≡ opened why.0 ws
  pub openings : (ws : List ℕ) (r : Reader) → opened_at ws (Ok r) ≡ opened 0 (words_of r)
  -- the error is `MalformedError`'s
  pub feedings : (a : Result Advance Refusal) → Numbered Err a → fed_in (fed_answer a) ≡ a
  pub closings : (a : Result Ending Refusal) → Numbered Err a → closed_in (reader.closed_answer a) ≡ a
  -- by the end's number
  pub closing-errors : (a : Result Ending Refusal) → let c = reader.closed_answer a in c.error ≡ get_or (0 ∷ 0 ∷ 1 ∷ []) c.end 0
  pub looks : (a : Result Sight Refusal) → Numbered Err a → looked_in (looked_answer a) ≡ a
  pub quarters : (a : Option Quarter) → quarter_in (quarter_answer a) ≡ a
  pub stream-ids : (a : Option StreamId) → stream_in (stream_answer a) ≡ a
  pub listings : (a : Result Counted Refusal) → Numbered Err a → listed_in (listing_answer a) ≡ a
  pub openings_of_streams : (a : Result ℕ Refusal) → Numbered Err a → opened_in (opened_answer a) ≡ a
  pub closings_of_sides : (a : Result SideClosed Refusal) → Numbered Err a → side_closed_in (table.closed_answer a) ≡ a
  pub standings : (a : Result ℕ Refusal) → Numbered Err a → standing_in (found_answer a) ≡ a
  pub judgements : (frame : List ℕ) (a : Result Judged Refusal) → Numbered Err a → judged_in (judged_answer frame a) ≡ a
  -- by the rule's number
  pub judged-errors : (frame : List ℕ) (a : Result Judged Refusal) → let j = judged_answer frame a in j.error ≡ get_or (0 ∷ 3 ∷ 4 ∷ 5 ∷ 0 ∷ 0 ∷ 2 ∷ 0 ∷ 0 ∷ []) j.rule 0
  -- the payload follows the quarter; there is none but with rule 8
  pub payloads :
      (frame : List ℕ) (q : Quarter) (i n size : ℕ)
      → read_varint frame ≡ Some (varint_of n size)
      → let j = judged_answer frame (Ok (judged.Delivered q i)) in (j.start ≡ size) × (j.length ≡ length frame - size)
  pub no_payloads : (frame : List ℕ) (a : Result Judged Refusal) → let j = judged_answer frame a in j.rule < 8 → (j.start ≡ 0) × (j.length ≡ 0)
  pub field_values : (a : Result Bool Refusal) → Numbered Err a → field_in (field_answer a) ≡ a
  pub translations : (a : Result (Option Action) Refusal) → Numbered Err a → translation_in (translation_answer a) ≡ a
  pub addresses : (c : Cursor) (a : Answer Address) → address_in (address_found c a) ≡ a
  pub reserved : (c : Cursor) (a : Answer Address) → (address_found c a).address.reserved ≡ replicate 6 0
  pub ranges : (c : Cursor) (a : Answer AddressRange) → range_in (route_found c a) ≡ a
  -- where no entry was found, the place is the one that was asked about
  pub address_stays : (c : Cursor) (a : Answer Address) → let f = address_found c a in (f.found ≡ 1 → ⊥) → f.next ≡ c.at
  pub range_stays : (c : Cursor) (a : Answer AddressRange) → let f = route_found c a in (f.found ≡ 1 → ⊥) → f.next ≡ c.at

-- ---- what an answer does not have is 0

pub record ElseZero : Type 0 where
  pub not_written : (why : Refusal) → (written_answer (Err why)).written ≡ 0
  pub incomplete : (varint_answer None).value ≡ 0
  pub not_reported : (a : Result Advance Refusal) → let f = fed_answer a in (f.report < 3 → f.ctype ≡ 0) × (f.report < 1 → f.length ≡ 0)
  pub not_fed : (why : Refusal) → let f = fed_answer (Err why) in (f.consumed ≡ 0) × (f.written ≡ 0) × (f.report ≡ 0)
  pub not_ended : (why : Refusal) → (reader.closed_answer (Err why)).end ≡ 0
  pub not_in_value :
      (a : Result Sight Refusal)
      → let l = looked_answer a in (l.field < 2 → l.capsule_type ≡ 0) × (l.field < 3 → (l.length ≡ 0) × (l.to_come ≡ 0) × (l.gathered ≡ 0) × (l.buffer ≡ 0))
  pub not_looked : (why : Refusal) → let l = looked_answer (Err why) in (l.finished ≡ 0) × (l.datagram_limit ≡ 0) × (l.field ≡ 0)
  pub no_quarter : (quarter_answer None).quarter ≡ 0
  pub no_stream_id : (stream_answer None).stream_id ≡ 0
  pub not_listed : (why : Refusal) → let l = listing_answer (Err why) in (l.capsules ≡ 0) × (l.headers ≡ 0) × (l.end ≡ 0)
  pub not_opened : (why : Refusal) → (opened_answer (Err why)).place ≡ 0
  pub not_closed : (why : Refusal) → let c = table.closed_answer (Err why) in (c.place ≡ 0) × (c.freed ≡ 0)
  pub not_found : (why : Refusal) → (found_answer (Err why)).place ≡ 0
  pub not_named : (frame : List ℕ) (a : Result Judged Refusal) → let j = judged_answer frame a in (j.rule < 2 → j.quarter ≡ 0) × (j.rule < 5 → j.place ≡ 0)
  pub not_judged : (frame : List ℕ) (why : Refusal) → (judged_answer frame (Err why)).rule ≡ 0
  pub not_in_use : (why : Refusal) → (field_answer (Err why)).in_use ≡ 0
  pub no_code : (a : Result (Option Action) Refusal) → let t = translation_answer a in t.action < 1 → t.code ≡ 0
  pub not_translated : (why : Refusal) → (translation_answer (Err why)).action ≡ 0
  pub no_address : (c : Cursor) (a : Answer Address) → let f = address_found c a in (f.found ≡ 1 → ⊥) → f.address ≡ blank_address
  pub no_range : (c : Cursor) (a : Answer AddressRange) → let f = route_found c a in (f.found ≡ 1 → ⊥) → f.route ≡ blank_route
