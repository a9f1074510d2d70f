-- The numbers decide the answer, and what an answer does not have is 0 (specs/Told.antt). Assumes nothing.
use Rattle.std.specs.Prelude.{Option, Some, None, Result, Ok, Err}
use Rattle.capsule.specs.declared.reader.Ending.{Ending}
use Rattle.one_shot_listing.specs.Listing.{count_of}
use Rattle.stream_records.specs.Tables.{side_closed}
use Rattle.capsule.specs.declared.reader.Ending.TheVariants.{Clean, Truncated}
use Rattle.opening.specs.declared.Report.{Report}
use Rattle.http_messages.specs.declared.errors.HttpError.{HttpError}
use Rattle.capsule.specs.declared.reader.Advance.{Advance}
use Rattle.capsule.specs.Reader.{taking}
use Rattle.one_shot_listing.specs.declared.Counted.{Counted}
use Rattle.capsule.specs.declared.reader.Reader.{Reader}
use Rattle.look.specs.declared.Sight.{Sight}
use Rattle.wire.specs.declared.units.StreamId.{StreamId}
use Rattle.http_errors.specs.declared.translation.Action.{Action}
use Rattle.short_forms.specs.Short.{varint_of}
use Prim.{tt}
use Rattle.walks.proofs.Words.{replicate, ℕ, ◌-◌, ◌/◌, ◌^◌, ◌<◌, Bool, true, false, cond, List, [], ◌∷◌, ◌≡◌, ◌∙◌, refl, ap, arith, length, get_or, leb, ltb, eqb, lt-ltb, ne_eqb, pow_pos}
use Rattle.capi.proofs.Terms.{Refusal, unmakeable_state, Quarter, Varint, size_of, read_varint, Delivered, Dropped, Skipped, Passed, AddressDelivered, Malformed, length_of, SideClosed, Judged, rule_of, Neither, Gathering, Addresses, Place, look_of, stored-read, look_words, number, close_error, report_error, judged_error, Cursor, Address, AddressRange, Answer, LookAnswer, FedAnswer, JudgedAnswer, bit_of, error_number, end_number, varint_answer, written_answer, report_number, type_of, fed_report, fed_took, fed_answer, close_refusal, opened_at, opened_answer, found_answer, or_zero, delivered_answer, judged_answer, buffer_number, sight_answer, looked_answer, quarter_answer, stream_answer, ending_number, listing_answer, found_number, next_place, address_entry, blank_address, address_answered, address_found, route_entry, blank_route, route_answered, route_found, field_answer, action_answer, translation_answer, NotZero, Numbered, MalformedError, LookKept, refused_or, bit_in, error_in, varint_in, written_in, ended_in, looked_in, stream_in, listed_in, opened_in, side_closed_in, standing_in, rule_in, field_in, translation_in, found_in, address_in, range_in, VarintSo, ErrorSo, AnswersTold, ElseZero}
use Rattle.judging.specs.declared.judge.Judged.TheVariants as judged
use Rattle.judging.specs.Judging.{quarter_in as quarter_of_rule, place_in as place_of_rule}
use Rattle.look.specs.declared.Place.TheVariants as place
use Rattle.capsule.specs.declared.reader.Ending.TheVariants as ending
use Rattle.http_errors.specs.declared.translation.Action.TheVariants as action
use Rattle.reader_answers.specs.Reader as reader
use Rattle.stream_answers.specs.Table as table
use Rattle.capi.specs.Told.{fed_in, closed_in, place_in, quarter_in, judged_in}

-- ---- readings

refused : {A : Type 0} (why : Refusal) (make : Refusal → A) (other : A) → NotZero why → refused_or why.0 make other ≡ make why
unfolding refused_or
refused why make other n = rw (ne_eqb why.0 0 n)

bit : (b : Bool) → bit_in (bit_of b) ≡ b
unfolding bit_in bit_of
bit true = refl
bit false = refl

error : (e : Option HttpError) → ErrorSo e → error_in (error_number e) ≡ e
unfolding error_in error_number
error None n = refl
error (Some e) n = rw (ne_eqb e.0 0 n)

varint : (a : Option Varint) → VarintSo a → varint_in (varint_answer a) ≡ a
unfolding varint_in varint_answer
varint None n = refl
varint (Some read) n = rw (ne_eqb read.size 0 n)

size : (s : List ℕ) → VarintSo (read_varint s)
unfolding read_varint size_of
size [] = tt
size (b ∷ s) = go (leb (2 ^ (b / 64)) (length (b ∷ s))) _
  where
    go : (t : Bool) (value : ℕ) → VarintSo (cond t (Some (varint_of value (2 ^ (b / 64)))) None)
    go true value = λ z. let n : ⊥ = omega (arith, pow_pos (b / 64), z) in n
    go false value = tt

writing : (a : Result ℕ Refusal) → Numbered Err a → written_in (written_answer a) ≡ a
unfolding written_in written_answer refused_or
writing (Err why) n = refused why Err _ (n why refl)
writing (Ok count) n = refl

-- what was taken: its reading, and what a report does not have; the error is that of a malformed capsule
abbrev Took : Type 0
Took = (Result Advance Refusal) × ℕ × ℕ × ℕ

abbrev took_in : FedAnswer → Took
took_in f = (fed_in f, cond (ltb f.report 3) f.ctype 0, cond (ltb f.report 1) f.length 0, f.error)

took : (consumed written : ℕ) (e : Option Report) → let f = fed_took consumed written e in took_in f ≡ (Ok (taking consumed written e), 0, 0, cond (eqb f.report 6) 7 0)
unfolding fed_in fed_took fed_report ended_in report_number type_of length_of refused_or report_error error_number number
took consumed written None = refl
took consumed written (Some (Delivered n)) = refl
took consumed written (Some (Dropped n)) = refl
took consumed written (Some (Skipped t n)) = refl
took consumed written (Some (Passed t n)) = refl
took consumed written (Some (AddressDelivered t n)) = refl
took consumed written (Some (Malformed t n)) = refl

feeding : (a : Result Advance Refusal) → Numbered Err a → fed_in (fed_answer a) ≡ a
unfolding fed_answer fed_in
feeding (Err why) n = refused why Err _ (n why refl)
feeding (Ok took') n = ap (λ (x : Took). x.0) (took took'.consumed took'.written took'.ended)

pub malformed_error : MalformedError
unfolding fed_answer
malformed_error (Err why) = refl
malformed_error (Ok took') = ap (λ (x : Took). x.3) (took took'.consumed took'.written took'.ended)

closing : (a : Result Ending Refusal) → let c = reader.closed_answer a in (Numbered Err a → closed_in c ≡ a) × (c.error ≡ get_or (0 ∷ 0 ∷ 1 ∷ []) c.end 0)
unfolding closed_in reader.closed_answer close_refusal end_number refused_or close_error error_number number
closing (Err why) = (λ n. refused why Err _ (n why refl), refl)
closing (Ok Clean) = (λ n. refl, refl)
closing (Ok Truncated) = (λ n. refl, refl)

-- what is seen: the numbers of every place, the place itself, and what a place does not have
abbrev in_value : LookAnswer → ℕ → ℕ
in_value l n = cond (ltb l.field 3) n 0

abbrev Seen : Type 0
Seen = ℕ × ℕ × ℕ × Place × ℕ × ℕ × ℕ × ℕ × ℕ

abbrev seen_in : LookAnswer → Seen
seen_in l = (l.refusal, l.finished, l.datagram_limit, place_in l, cond (ltb l.field 2) l.capsule_type 0, in_value l l.length, in_value l l.to_come, in_value l l.gathered, in_value l l.buffer)

seen : (finished : Bool) (limit : ℕ) (p : Place) → seen_in (sight_answer finished limit p) ≡ (0, bit_of finished, limit, p, 0, 0, 0, 0, 0)
unfolding place_in sight_answer buffer_number
seen finished limit place.Between = refl
seen finished limit place.InType = refl
seen finished limit (place.InLength t) = refl
seen finished limit (place.InValue t n to_come gathered Neither) = refl
seen finished limit (place.InValue t n to_come gathered Gathering) = refl
seen finished limit (place.InValue t n to_come gathered Addresses) = refl

look : (a : Result Sight Refusal) → Numbered Err a → looked_in (looked_answer a) ≡ a
unfolding looked_answer looked_in
look (Err why) n = refused why Err _ (n why refl)
look (Ok s) n =
    ap (λ (x : Seen). refused_or x.0 Err (Ok (record { finished = bit_in x.1; limit = x.2; place = x.3 }))) (seen s.finished s.limit s.place)
    ∙ unfold refused_or in ap (λ (b : Bool). Ok (record { finished = b; limit = s.limit; place = s.place })) (bit s.finished)

quarter : (a : Option Quarter) → quarter_in (quarter_answer a) ≡ a
unfolding quarter_in quarter_answer
quarter None = refl
quarter (Some q) = refl

stream : (a : Option StreamId) → stream_in (stream_answer a) ≡ a
unfolding stream_in stream_answer bit_in
stream None = refl
stream (Some id) = refl

listing : (a : Result Counted Refusal) → Numbered Err a → listed_in (listing_answer a) ≡ a
unfolding listed_in listing_answer ending_number end_number refused_or
listing (Err why) n = refused why Err _ (n why refl)
listing (Ok count) n = go count.ending
  where
    go : (e : Ending) → listed_in (listing_answer (Ok (count_of count.capsules count.headers e))) ≡ Ok (count_of count.capsules count.headers e)
    go ending.Clean = refl
    go ending.Truncated = refl

opening : (a : Result ℕ Refusal) → Numbered Err a → opened_in (opened_answer a) ≡ a
unfolding opened_in opened_answer refused_or
opening (Err why) n = refused why Err _ (n why refl)
opening (Ok i) n = refl

side : (a : Result SideClosed Refusal) → Numbered Err a → side_closed_in (table.closed_answer a) ≡ a
unfolding side_closed_in table.closed_answer refused_or
side (Err why) n = refused why Err _ (n why refl)
side (Ok side') n = ap (λ (f : Bool). Ok (side_closed side'.place f)) (bit side'.freed)

standing : (a : Result ℕ Refusal) → Numbered Err a → standing_in (found_answer a) ≡ a
unfolding standing_in found_answer refused_or
standing (Err why) n = refused why Err _ (n why refl)
standing (Ok i) n = refl

-- of a judgement: its reading, and for all rules at once the error and what a rule does not have
abbrev Rest : Type 0
Rest = ℕ × ℕ × ℕ × ℕ × ℕ

abbrev rest_in : JudgedAnswer → Rest
rest_in j = (j.error, cond (ltb j.rule 8) j.start 0, cond (ltb j.rule 8) j.length 0, cond (ltb j.rule 2) j.quarter 0, cond (ltb j.rule 5) j.place 0)

abbrev Told : Result Judged Refusal → JudgedAnswer → Type 0
Told a j = (Numbered Err a → judged_in j ≡ a) × (rest_in j ≡ (get_or (0 ∷ 3 ∷ 4 ∷ 5 ∷ 0 ∷ 0 ∷ 2 ∷ 0 ∷ 0 ∷ []) j.rule 0, 0, 0, 0, 0))

judgement : (frame : List ℕ) (a : Result Judged Refusal) → Told a (judged_answer frame a)
unfolding judged_in rule_in judged_answer delivered_answer or_zero rule_of quarter_of_rule place_of_rule refused_or judged_error error_number number
judgement frame (Err why) = (λ n. refused why Err _ (n why refl), refl)
judgement frame (Ok judged.ShortFrame) = (λ n. refl, refl)
judgement frame (Ok (judged.QuarterTooLarge q)) = (λ n. refl, refl)
judgement frame (Ok (judged.BeyondLimit q)) = (λ n. refl, refl)
judgement frame (Ok (judged.NoStream q)) = (λ n. refl, refl)
judgement frame (Ok (judged.ReceiveClosed q i)) = (λ n. refl, refl)
judgement frame (Ok (judged.NoSemantics q i)) = (λ n. refl, refl)
judgement frame (Ok (judged.TooLong q i)) = (λ n. refl, refl)
judgement frame (Ok (judged.Delivered q i)) = go (read_varint frame)
  where
    go : (v : Option Varint) → Told (Ok (judged.Delivered q i)) (delivered_answer q i frame v)
    go None = (λ n. refl, refl)
    go (Some read) = (λ n. refl, refl)

field_value_lem : (a : Result Bool Refusal) → Numbered Err a → field_in (field_answer a) ≡ a
unfolding field_in field_answer refused_or bit_in
field_value_lem (Err why) n = refused why Err _ (n why refl)
field_value_lem (Ok true) n = refl
field_value_lem (Ok false) n = refl

translated : (a : Result (Option Action) Refusal) → let t = translation_answer a in (Numbered Err a → translation_in t ≡ a) × (cond (ltb t.action 1) t.code 0 ≡ 0)
unfolding translation_in translation_answer action_answer refused_or
translated (Err why) = (λ n. refused why Err _ (n why refl), refl)
translated (Ok None) = (λ n. refl, refl)
translated (Ok (Some (action.Close c))) = (λ n. refl, refl)
translated (Ok (Some (action.StreamError c))) = (λ n. refl, refl)
translated (Ok (Some (action.ConnectionError c))) = (λ n. refl, refl)

address : (c : Cursor) (a : Answer Address) → address_in (address_found c a) ≡ a
unfolding address_in found_in address_found found_number next_place address_answered address_entry
address c (Ok None) = refl
address c (Ok (Some s)) = refl
address c (Err m) = refl

range : (c : Cursor) (a : Answer AddressRange) → range_in (route_found c a) ≡ a
unfolding range_in found_in route_found found_number next_place route_answered route_entry
range c (Ok None) = refl
range c (Ok (Some s)) = refl
range c (Err m) = refl

reserve : (c : Cursor) (a : Answer Address) → (address_found c a).address.reserved ≡ replicate 6 0
unfolding address_found address_answered address_entry blank_address
reserve c (Ok None) = refl
reserve c (Ok (Some s)) = refl
reserve c (Err m) = refl

module _ {A : Type 0} where
  stays : (c : Cursor) (a : Answer A) → (found_number a ≡ 1 → ⊥) → next_place c a ≡ c.at
  unfolding found_number next_place
  stays c (Ok None) n = refl
  stays c (Ok (Some s)) n = absurd (n refl)
  stays c (Err m) n = refl

no_entry : (c : Cursor) (a : Answer Address) → (found_number a ≡ 1 → ⊥) → address_answered a ≡ blank_address
unfolding found_number address_answered
no_entry c (Ok None) n = refl
no_entry c (Ok (Some s)) n = absurd (n refl)
no_entry c (Err m) n = refl

no_route : (c : Cursor) (a : Answer AddressRange) → (found_number a ≡ 1 → ⊥) → route_answered a ≡ blank_route
unfolding found_number route_answered
no_route c (Ok None) n = refl
no_route c (Ok (Some s)) n = absurd (n refl)
no_route c (Err m) n = refl

-- ---- the other numbers

-- from the test to the fact
below : (m n x : ℕ) → cond (ltb m n) x 0 ≡ 0 → m < n → x ≡ 0
below m n x e l = rw (lt-ltb m n l) at e

payload :
    (frame : List ℕ) (q : Quarter) (i n size : ℕ)
    → read_varint frame ≡ Some (varint_of n size)
    → let j = judged_answer frame (Ok (judged.Delivered q i)) in (j.start ≡ size) × (j.length ≡ length frame - size)
unfolding judged_answer delivered_answer
payload frame q i n size e = rw e (refl, refl)

reported : (a : Result Advance Refusal) → let f = fed_answer a in (f.report < 3 → f.ctype ≡ 0) × (f.report < 1 → f.length ≡ 0)
unfolding fed_answer
reported (Err why) = (λ l. refl, λ l. refl)
reported (Ok took') =
    let t = took took'.consumed took'.written took'.ended in
    (below _ 3 _ (ap (λ (x : Took). x.1) t), below _ 1 _ (ap (λ (x : Took). x.2) t))

looked : (a : Result Sight Refusal) → let l = looked_answer a in (l.field < 2 → l.capsule_type ≡ 0) × (l.field < 3 → (l.length ≡ 0) × (l.to_come ≡ 0) × (l.gathered ≡ 0) × (l.buffer ≡ 0))
unfolding looked_answer
looked (Err why) = (λ l. refl, λ l. (refl, refl, refl, refl))
looked (Ok s) =
    let t = seen s.finished s.limit s.place in (
      below _ 2 _ (ap (λ (x : Seen). x.4) t),
      λ l. (below _ 3 _ (ap (λ (x : Seen). x.5) t) l, below _ 3 _ (ap (λ (x : Seen). x.6) t) l, below _ 3 _ (ap (λ (x : Seen). x.7) t) l, below _ 3 _ (ap (λ (x : Seen). x.8) t) l),
    )

pub look_kept : LookKept
unfolding look_words
look_kept =
    record {
      looks = λ r h. ap (λ (l : Option Reader). elim l [ None ↦ looked_answer (Err unmakeable_state) | Some r ↦ looked_answer (look_of r) ]) (stored-read r h);
      tells = λ finished limit p. let t = seen finished limit p in (ap (λ (x : Seen). x.0) t, ap (λ (x : Seen). x.1) t, ap (λ (x : Seen). x.2) t);
    }

pub answers_told : AnswersTold
unfolding opened_at address_found route_found
answers_told = record {
  bits = bit;
  errors = error;
  varints = varint;
  sizes = size;
  writings = writing;
  refused_openings = λ ws why. refl;
  openings = λ ws r. refl;
  feedings = feeding;
  closings = λ a. (closing a).0;
  closing-errors = λ a. (closing a).1;
  looks = look;
  quarters = quarter;
  stream-ids = stream;
  listings = listing;
  openings_of_streams = opening;
  closings_of_sides = side;
  standings = standing;
  judgements = λ frame a. (judgement frame a).0;
  judged-errors = λ frame a. ap (λ (x : Rest). x.0) (judgement frame a).1;
  payloads = payload;
  no_payloads = λ frame a l. let e = (judgement frame a).1 in (below _ 8 _ (ap (λ (x : Rest). x.1) e) l, below _ 8 _ (ap (λ (x : Rest). x.2) e) l);
  field_values = field_value_lem;
  translations = λ a. (translated a).0;
  addresses = address;
  reserved = reserve;
  ranges = range;
  address_stays = stays;
  range_stays = stays;
}

pub else_zero : ElseZero
unfolding written_answer varint_answer fed_answer reader.closed_answer end_number looked_answer quarter_answer stream_answer listing_answer opened_answer table.closed_answer found_answer judged_answer field_answer translation_answer address_found route_found
else_zero = record {
  not_written = λ why. refl;
  incomplete = refl;
  not_reported = reported;
  not_fed = λ why. (refl, refl, refl);
  not_ended = λ why. refl;
  not_in_value = looked;
  not_looked = λ why. (refl, refl, refl);
  no_quarter = refl;
  no_stream_id = refl;
  not_listed = λ why. (refl, refl, refl);
  not_opened = λ why. refl;
  not_closed = λ why. (refl, refl);
  not_found = λ why. refl;
  not_named = λ frame a. let e = (judgement frame a).1 in (below _ 2 _ (ap (λ (x : Rest). x.3) e), below _ 5 _ (ap (λ (x : Rest). x.4) e));
  not_judged = λ frame why. refl;
  not_in_use = λ why. refl;
  no_code = λ a. below _ 1 _ (translated a).1;
  not_translated = λ why. refl;
  no_address = no_entry;
  no_range = no_route;
}
