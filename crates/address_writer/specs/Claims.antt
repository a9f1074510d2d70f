-- What holds of the writers: each claim is a type here, and is proved in proofs/ under its name in lower case with dashes.
use Rattle.short_forms.specs.Short.{varint_of}
use Rattle.std.specs.Prelude.{ℕ, ◌+◌, ◌-◌, ◌*◌, ◌/◌, ◌%◌, ◌^◌, ◌≤◌, ◌<◌, ◌≡◌, ◌↔◌, Bool, true, false, ◌&&◌, not, List, [], ◌∷◌, length, take, drop, leb, ltb, eqb, Some, Ok, Err}
use Rattle.std.specs.Prelude.{slice_get}
use Rattle.refusals.specs.declared.Refusal.{Refusal}
use Rattle.refusals.specs.Numbers.{output_too_short, number_too_large, malformed_to_write}
use Rattle.wire.specs.Bytes.{Bytes}
use Rattle.wire.specs.Varint.{largest, read_varint}
use Rattle.wire.specs.Writing.{Writing, writing}
use Rattle.opening.specs.declared.Opening.{Opening}
use Rattle.opening.specs.declared.Report.TheVariants.{AddressDelivered}
use Rattle.capsule.specs.Grammar.{in_type, Parts, parts}
use Rattle.opening.specs.Kinds.{opted}
use Rattle.capsule.specs.Book.{parts_for, reported}
use Rattle.addresses.specs.Addresses.{assign, request, route, longest_address_value, width_of, Step, entries, all_of, Entry, entry_at, good_entry, good_requests, Range, range_at, good_ranges, well_formed}
use Rattle.addresses.specs.Encoding.{entry_bytes, range_bytes, value_bytes}
use Rattle.address_rows.specs.Rows.{little_endian, entry_size, entry_of, range_size, range_of, is_whole, entries_in, ranges_in, id_fits}
use Rattle.address_writer.specs.Writer.{capsule_of, write_addresses, write_routes}

-- ---- a capsule (proofs/Capsules.antt)

abbrev pub alone : ℕ → List ℕ → Parts
alone t v = record { capsules = record { ctype = t; size = length v; value = v; bytes = capsule_of t v } ∷ []; tail = []; stage = in_type }

-- what is written is, by document 01's grammar, one complete capsule of its type and value, and nothing is left over
abbrev pub OneCapsule : Type 0
OneCapsule = (t : ℕ) (v : List ℕ) → t ≤ 63 → length v ≤ largest → parts (capsule_of t v) ≡ alone t v

-- its header is shortest: the type has one byte, and no byte list that reads as the length is shorter
abbrev pub HeaderShortest : Type 0
HeaderShortest = (t : ℕ) (v s : List ℕ) (size : ℕ) → read_varint s ≡ Some (varint_of (length v) size) → length (capsule_of t v) ≤ 1 + (size + length v)

-- ---- the row of records that is lent (proofs/Counting.antt)

-- a row has surplus bytes exactly if its length is no multiple of a record's size
abbrev pub WholeExactly : Type 0
WholeExactly = (size : ℕ) (row : List ℕ) → (is_whole size row ≡ true) ↔ (length row % size ≡ 0)

-- every whole record is an entry, in order: entry k starts at k sizes
abbrev pub EntriesOf : {A : Type 0} → ℕ → (List ℕ → A) → (List ℕ → List A) → Type 0
EntriesOf size entry entries_of =
    (row : List ℕ) → (length (entries_of row) ≡ length row / size) × ((k : ℕ) → k < length row / size → slice_get (entries_of row) k ≡ Some (entry (drop (size * k) row)))

abbrev pub EveryEntry : Type 0
EveryEntry = EntriesOf 32 entry_of entries_in × EntriesOf 34 range_of ranges_in

-- ---- entries of either form (proofs/ReadBack.antt)

-- how an entry is read, its bytes, its IP version, and whether reading can give it
pub record Form (A : Type 0) : Type 0 where
  pub read : List ℕ → Step A
  pub bytes : A → List ℕ
  pub version : A → ℕ
  pub fits : A → Bool

-- a varint holds the ID, and the address has as many bytes as the version says
unfoldable pub entry_fits : Entry → Bool
entry_fits e = id_fits e && eqb (length e.address) (width_of e.version)

-- both addresses are numbers of as many bytes as the version says
unfoldable pub range_fits : Range → Bool
range_fits r = ltb r.start (256 ^ width_of r.version) && ltb r.end (256 ^ width_of r.version)

abbrev pub addresses : Form Entry
addresses = record { read = entry_at; bytes = entry_bytes; version = λ e. e.version; fits = entry_fits }

abbrev pub ranges : Form Range
ranges = record { read = range_at; bytes = range_bytes; version = λ r. r.version; fits = range_fits }

-- every IP version is 4 or 6
unfoldable pub all_known : {A : Type 0} → Form A → List A → Bool
all_known f es = all_of (λ e. ltb 0 (width_of (f.version e))) es

-- the value of entries reads back as those entries
abbrev pub ReadsBackAs : {A : Type 0} → Form A → Type 0
ReadsBackAs {A} f = (es : List A) → all_of f.fits es ≡ true → all_known f es ≡ true → entries f.read (value_bytes f.bytes es) ≡ Some es

abbrev pub ReadsBack : Type 0
ReadsBack = ReadsBackAs addresses × ReadsBackAs ranges

-- entries may be written that are at most 1,024 bytes, of known versions, and keep the rule
unfoldable pub is_writable : {A : Type 0} → Form A → (List A → Bool) → List A → Bool
is_writable f rule es = leb (length (value_bytes f.bytes es)) longest_address_value && (all_known f es && rule es)

-- reading would call a value of entries malformed exactly if they may not be written
abbrev pub WritableAs : {A : Type 0} → Form A → ℕ → (List A → Bool) → Type 0
WritableAs {A} f t rule = (es : List A) → all_of f.fits es ≡ true → well_formed t (value_bytes f.bytes es) ≡ is_writable f rule es

abbrev pub WritableExactly : Type 0
WritableExactly = WritableAs addresses assign (all_of good_entry) × WritableAs addresses request good_requests × WritableAs ranges route good_ranges

-- ---- the writers' answers (proofs/Answers.antt)

pub data AddressCapsule : Type 0 where
  address_assign address_request route_advertisement : AddressCapsule

unfoldable pub type_of : AddressCapsule → ℕ
type_of address_assign = assign
type_of address_request = request
type_of route_advertisement = route

-- the value of a row's entries
unfoldable pub value_of : AddressCapsule → List ℕ → List ℕ
value_of address_assign row = value_bytes entry_bytes (entries_in row)
value_of address_request row = value_bytes entry_bytes (entries_in row)
value_of route_advertisement row = value_bytes range_bytes (ranges_in row)

unfoldable pub write_of : AddressCapsule → List ℕ → List ℕ → ℕ → Writing
write_of address_assign row out place = write_addresses assign row out place
write_of address_request row out place = write_addresses request row out place
write_of route_advertisement row out place = write_routes row out place

-- some whole entry's ID is above 2^62-1
unfoldable pub has_large_id : AddressCapsule → List ℕ → Bool
has_large_id address_assign row = not (all_of id_fits (entries_in row))
has_large_id address_request row = not (all_of id_fits (entries_in row))
has_large_id route_advertisement row = false

-- the same in document 02's words: the ID of some whole record of a row of addresses (proofs/Conditions.antt)
abbrev pub LargeId : AddressCapsule → List ℕ → Type 0
LargeId k row = (k ≡ route_advertisement → ⊥) × ((i : ℕ) × (i < length row / 32) × (2 ^ 62 - 1 < little_endian (take 8 (drop (32 * i) row))))

abbrev pub LargeIdExactly : Type 0
LargeIdExactly = (k : AddressCapsule) (row : List ℕ) → (has_large_id k row ≡ true) ↔ LargeId k row

-- the size of a record
abbrev pub record_size : AddressCapsule → ℕ
record_size address_assign = 32
record_size address_request = 32
record_size route_advertisement = 34

-- no surplus bytes, at most 1,024 bytes of value, known versions, and RFC 9484's rules
unfoldable pub keeps_rules : AddressCapsule → List ℕ → Bool
keeps_rules address_assign row = is_whole entry_size row && is_writable addresses (all_of good_entry) (entries_in row)
keeps_rules address_request row = is_whole entry_size row && is_writable addresses good_requests (entries_in row)
keeps_rules route_advertisement row = is_whole range_size row && is_writable ranges good_ranges (ranges_in row)

-- by whether an ID is too large, whether the rules are kept, and the capsule's bytes
pub record Answered (large kept : Bool) (bytes out : List ℕ) (place : ℕ) (w : Writing) : Type 0 where
  pub too_large : (w.answer ≡ Err number_too_large) ↔ (large ≡ true)
  pub malformed : (w.answer ≡ Err malformed_to_write) ↔ ((large ≡ false) × (kept ≡ false))
  pub too_short : (w.answer ≡ Err output_too_short) ↔ ((large ≡ false) × (kept ≡ true) × (length out < place + length bytes))
  pub written : (w.answer ≡ Ok (length bytes)) ↔ ((large ≡ false) × (kept ≡ true) × (place + length bytes ≤ length out))

-- 6, 26 and 5 are answered each exactly then, in this order, and nothing else is refused
abbrev pub RefusedExactly : Type 0
RefusedExactly =
    (k : AddressCapsule) (row out : List ℕ) (place : ℕ)
    → Bytes row
    → Answered (has_large_id k row) (keeps_rules k row) (capsule_of (type_of k) (value_of k row)) out place (write_of k row out place)

-- the value reads back as the row's entries
abbrev pub ReadBackAs : AddressCapsule → List ℕ → List ℕ → Type 0
ReadBackAs address_assign v row = entries entry_at v ≡ Some (entries_in row)
ReadBackAs address_request v row = entries entry_at v ≡ Some (entries_in row)
ReadBackAs route_advertisement v row = entries range_at v ≡ Some (ranges_in row)

-- an endpoint that opted in reads that one capsule, and delivers it
abbrev pub DeliveredTo : Opening → ℕ → List ℕ → Type 0
DeliveredTo op t v =
    (parts_for op (capsule_of t v) ≡ alone t v)
    × (reported op (record { ctype = t; size = length v; value = v; bytes = capsule_of t v }) ≡ AddressDelivered t (length v))

-- what stands in the output after n bytes were written; no other byte changed
pub record Standing (k : AddressCapsule) (row out : List ℕ) (place n : ℕ) (after : List ℕ) : Type 0 where
  pub before : take place after ≡ take place out
  pub behind : drop (place + n) after ≡ drop (place + n) out
  pub same : length after ≡ length out
  pub bytes : take n (drop place after) ≡ capsule_of (type_of k) (value_of k row)
  pub capsule : parts (take n (drop place after)) ≡ alone (type_of k) (value_of k row)
  pub good : well_formed (type_of k) (value_of k row) ≡ true
  pub delivered : (op : Opening) → opted op ≡ true → DeliveredTo op (type_of k) (value_of k row)
  pub reads : ReadBackAs k (value_of k row) row

abbrev pub WrittenStands : Type 0
WrittenStands =
    (k : AddressCapsule) (row out : List ℕ) (place n : ℕ) (after : List ℕ)
    → Bytes row
    → write_of k row out place ≡ writing (Ok n) after
    → Standing k row out place n after

abbrev pub RefusedNothing : Type 0
RefusedNothing =
    (k : AddressCapsule) (row out : List ℕ) (place : ℕ) (r : Refusal) (after : List ℕ)
    → write_of k row out place ≡ writing (Err r) after
    → after ≡ out
