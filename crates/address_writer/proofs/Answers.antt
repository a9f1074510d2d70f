-- The writers' answers, and what stands in the output. Assumes nothing.
use Rattle.std.specs.Prelude.{Result, Ok, Err}
use Rattle.walks.proofs.Words.{◌≡◌, refl, sym, ap, ◌∙◌, ◌↔◌, ℕ, zero, suc, ◌+◌, ◌*◌, ◌/◌, ◌^◌, ◌≤◌, arith, Bool, true, false, cond, ◌&&◌, and-false, not, List, [], ◌∷◌, ◌++◌, append_assoc, length, take, drop, get_or, length-drop, sets, sets-eq, length-sets, take_at, drop_at, drop-drop, length-take-le, leb, ltb, eqb, le-leb, leb-true, leb-false, lt-ltb, eq-eqb, not-false}
use Rattle.address_writer.proofs.Terms.{Refusal, output_too_short, number_too_large, malformed_to_write, Bytes, num, Writing, writing, refuses, write_at, bytes_take, bytes_drop, num_lt, Opening, Address, AddressDelivered, parts, opted, kind_of, extent_by, extent_of, report_by, report_of, judged, reported, by_the_grammar, assign, request, is_address_type, longest_address_value, width_of, all_of, good_entry, good_requests, good_ranges, well_formed, entry_bytes, value_bytes, entry_size, entry_of, range_size, range_of, first_of, all_in, is_whole, entries_in, ranges_in, id_fits, capsule_of, write_value, write_addresses, write_routes, alone, Form, entry_fits, range_fits, addresses, ranges, all_known, is_writable, AddressCapsule, address_assign, address_request, route_advertisement, type_of, value_of, write_of, has_large_id, record_size, keeps_rules, Answered, RefusedExactly, ReadBackAs, DeliveredTo, Standing, WrittenStands, RefusedNothing, address-length, impossible, both}
use Rattle.address_writer.proofs.{Writing.formed_short, Writing.formed_largest, Capsules.one-capsule, ReadBack.reads_back, ReadBack.writable_exactly}

-- ---- the entries of a row are such as reading gives

module _ {A : Type 0} (size : ℕ) (entry : List ℕ → A) (good : A → Bool) (each : (s : List ℕ) → Bytes s → size ≤ length s → good (entry s) ≡ true) where
  every : (k : ℕ) (s : List ℕ) → Bytes s → size * k ≤ length s → all_of good (first_of size entry k s) ≡ true
  unfolding all_of first_of
  every zero s b h = refl
  every (suc k) s b h =
      let m : size * suc k ≡ size * k + size = omega arith in
      rw (each s b (omega arith)) (every k (drop size s) (bytes_drop size s b) (omega (arith, length-drop size s)))

all_both : {A : Type 0} (p q : A → Bool) (es : List A) → all_of p es ≡ true → all_of q es ≡ true → all_of (λ e. p e && q e) es ≡ true
unfolding all_of
all_both p q [] g h = refl
all_both p q (e ∷ es) g h = let a = both (p e) (all_of p es) g in let b = both (q e) (all_of q es) h in rw (a.0, b.0) (all_both p q es a.1 b.1)

address-fits : (s : List ℕ) → Bytes s → 32 ≤ length s → eqb (length (entry_of s).address) (width_of (entry_of s).version) ≡ true
unfolding entry_of
address-fits s b h = eq-eqb _ _ (address-length (drop 10 s) _ (omega (arith, length-drop 10 s)))

range-fits : (s : List ℕ) → Bytes s → 34 ≤ length s → range_fits (range_of s) ≡ true
unfolding range_fits range_of
range-fits s b h = rw (below 2 (omega arith), below 18 (omega arith))
  where
    below : (from : ℕ) → from + 16 ≤ length s → ltb (num (take (width_of (get_or s 0 0)) (drop from s))) (256 ^ width_of (get_or s 0 0)) ≡ true
    below from l =
        let w : ℕ = width_of (get_or s 0 0) in
        let t : List ℕ = take w (drop from s) in
        lt-ltb (num t) (256 ^ w) (rw (address-length (drop from s) (get_or s 0 0) (omega (arith, length-drop from s))) at (num_lt t (bytes_take w (drop from s) (bytes_drop from s b))))

entries_fit : (row : List ℕ) → Bytes row → all_of id_fits (entries_in row) ≡ true → all_of entry_fits (entries_in row) ≡ true
unfolding entries_in all_in entry_fits
entries_fit row b g =
    all_both id_fits (λ e. eqb (length e.address) (width_of e.version)) (first_of 32 entry_of (length row / 32) row) g
    (every 32 entry_of (λ e. eqb (length e.address) (width_of e.version)) address-fits (length row / 32) row b (omega arith))

ranges_fit : (row : List ℕ) → Bytes row → all_of range_fits (ranges_in row) ≡ true
unfolding ranges_in all_in
ranges_fit row b = every 34 range_of range_fits range-fits (length row / 34) row b (omega arith)

-- ---- a call by what it goes by

module _ (large fine : Bool) (bytes out : List ℕ) (place : ℕ) where
  abbrev Call : Writing
  Call = cond large (refuses number_too_large out) (cond fine (write_at bytes out place) (refuses malformed_to_write out))

-- by the definition: what reading would not call malformed
abbrev is_fine : AddressCapsule → List ℕ → Bool
is_fine k row = is_whole (record_size k) row && well_formed (type_of k) (value_of k row)

swap : {A : Type 0} (b : Bool) (x y : A) → cond b x y ≡ cond (not b) y x
swap true x y = refl
swap false x y = refl

module _ (row out : List ℕ) (place : ℕ) where
  abbrev bytes : AddressCapsule → List ℕ
  bytes k = capsule_of (type_of k) (value_of k row)

  addresses_defined : (t : ℕ) → write_addresses t row out place
      ≡ Call (not (all_of id_fits (entries_in row))) (is_whole entry_size row && well_formed t (value_bytes entry_bytes (entries_in row))) (capsule_of t (value_bytes entry_bytes (entries_in row))) out place
  unfolding write_addresses write_value
  addresses_defined t = swap (all_of id_fits (entries_in row)) _ _

  defined : (k : AddressCapsule) → write_of k row out place ≡ Call (has_large_id k row) (is_fine k row) (bytes k) out place
  unfolding write_of has_large_id type_of value_of
  defined address_assign = addresses_defined assign
  defined address_request = addresses_defined request
  defined route_advertisement = (unfold write_routes write_value in refl)

  module _ (b : Bytes row) where
    fine_kept : (k : AddressCapsule) → has_large_id k row ≡ false → is_fine k row ≡ keeps_rules k row
    unfolding keeps_rules has_large_id type_of value_of
    fine_kept address_assign e = rw (writable_exactly.0 (entries_in row) (entries_fit row b (not-false _ e)))
    fine_kept address_request e = rw (writable_exactly.1 (entries_in row) (entries_fit row b (not-false _ e)))
    fine_kept route_advertisement e = rw (writable_exactly.2 (ranges_in row) (ranges_fit row b))

    by_rules : (k : AddressCapsule) → write_of k row out place ≡ Call (has_large_id k row) (keeps_rules k row) (bytes k) out place
    by_rules k = defined k ∙ go (has_large_id k row) refl
      where
        go : (l : Bool) → has_large_id k row ≡ l → Call (has_large_id k row) (is_fine k row) (bytes k) out place ≡ Call (has_large_id k row) (keeps_rules k row) (bytes k) out place
        go true e = rw e
        go false e = rw (fine_kept k e)

-- ---- which answer

code : Result ℕ Refusal → ℕ
code (Err r) = r.0
code (Ok n) = 0

yes : {P Q : Type 0} → P → Q → P ↔ Q
yes p q = (λ _. q, λ _. p)

never : {P Q : Type 0} → (P → ◌≡◌ {A = ℕ} 0 1) → (Q → ◌≡◌ {A = ℕ} 0 1) → P ↔ Q
never p q = (λ x. impossible (p x), λ y. impossible (q y))

module _ (bytes out : List ℕ) (place : ℕ) where
  answered : (large kept room : Bool) → leb (place + length bytes) (length out) ≡ room → Answered large kept bytes out place (Call large kept bytes out place)
  unfolding refuses write_at code
  answered true kept room e = record {
    too_large = yes refl refl;
    malformed = never (λ d. omega (arith, ap code d)) (λ p. cc);
    too_short = never (λ d. omega (arith, ap code d)) (λ p. cc);
    written = never (λ d. cc) (λ p. cc);
  }
  answered false false room e = record {
    too_large = never (λ d. omega (arith, ap code d)) (λ p. cc);
    malformed = yes refl (refl, refl);
    too_short = never (λ d. omega (arith, ap code d)) (λ p. cc);
    written = never (λ d. cc) (λ p. cc);
  }
  answered false true false e = let l = leb-false (place + length bytes) (length out) e in rw e (record {
    too_large = never (λ d. omega (arith, ap code d)) (λ p. cc);
    malformed = never (λ d. omega (arith, ap code d)) (λ p. cc);
    too_short = yes refl (refl, refl, omega arith);
    written = never (λ d. cc) (λ p. omega arith);
  })
  answered false true true e = let l = leb-true (place + length bytes) (length out) e in rw e (record {
    too_large = never (λ d. cc) (λ p. cc);
    malformed = never (λ d. cc) (λ p. cc);
    too_short = never (λ d. cc) (λ p. omega arith);
    written = yes refl (refl, refl, l);
  })

pub refused_exactly : RefusedExactly
refused_exactly k row out place b =
    rw (by_rules row out place b k) (answered (bytes row out place k) out place (has_large_id k row) (keeps_rules k row) (leb (place + length (bytes row out place k)) (length out)) refl)

-- ---- bytes put in place

module _ (bytes out : List ℕ) (place : ℕ) (h : place + length bytes ≤ length out) where
  abbrev back : List ℕ
  back = drop (place + length bytes) out

  apart : sets out place bytes ≡ take place out ++ (bytes ++ back)
  apart = sets-eq bytes out place h ∙ append_assoc (take place out) bytes back

  put_front : take place (sets out place bytes) ≡ take place out
  put_front = rw apart (take_at (take place out) (bytes ++ back) place (length-take-le place out (omega arith)))

  behind_front : drop place (sets out place bytes) ≡ bytes ++ back
  behind_front = rw apart (drop_at (take place out) (bytes ++ back) place (length-take-le place out (omega arith)))

  put_bytes : take (length bytes) (drop place (sets out place bytes)) ≡ bytes
  put_bytes = rw behind_front (take_at bytes back (length bytes) refl)

  put_back : drop (place + length bytes) (sets out place bytes) ≡ drop (place + length bytes) out
  put_back = sym (drop-drop (length bytes) place (sets out place bytes)) ∙ rw behind_front (drop_at bytes back (length bytes) refl)

-- ---- what stands there afterwards

-- the ways that a call goes
data Way (large fine : Bool) (bytes out : List ℕ) (place : ℕ) (w : Writing) : Type 0 where
  refused : (r : Refusal) → w ≡ writing (Err r) out → Way large fine bytes out place w
  wrote : large ≡ false → fine ≡ true → place + length bytes ≤ length out → w ≡ writing (Ok (length bytes)) (sets out place bytes) → Way large fine bytes out place w

way : (large fine room : Bool) (bytes out : List ℕ) (place : ℕ) → leb (place + length bytes) (length out) ≡ room → Way large fine bytes out place (Call large fine bytes out place)
unfolding refuses write_at
way true fine room bytes out place e = refused number_too_large refl
way false false room bytes out place e = refused malformed_to_write refl
way false true false bytes out place e = refused output_too_short (rw e)
way false true true bytes out place e = wrote refl refl (leb-true (place + length bytes) (length out) e) (rw e)

way_of : (k : AddressCapsule) (row out : List ℕ) (place : ℕ) → Way (has_large_id k row) (is_fine k row) (capsule_of (type_of k) (value_of k row)) out place (write_of k row out place)
way_of k row out place =
    rw (defined row out place k)
    (way (has_large_id k row) (is_fine k row) (leb (place + length (capsule_of (type_of k) (value_of k row))) (length out)) (capsule_of (type_of k) (value_of k row)) out place refl)

pub refused-nothing : RefusedNothing
refused-nothing k row out place r after e = go (way_of k row out place)
  where
    go : Way (has_large_id k row) (is_fine k row) (capsule_of (type_of k) (value_of k row)) out place (write_of k row out place) → after ≡ out
    go (refused q d) = ap (λ (w : Writing). w.output) (sym e ∙ d)
    go (wrote l f h d) = impossible (cc (ap (λ (w : Writing). w.answer) (sym e ∙ d)))

one_byte : (k : AddressCapsule) → type_of k ≤ 63
unfolding type_of
one_byte address_assign = omega arith
one_byte address_request = omega arith
one_byte route_advertisement = omega arith

module _ (op : Opening) (o : opted op ≡ true) (k : AddressCapsule) where
  is_address : kind_of op (type_of k) ≡ Address
  unfolding kind_of type_of is_address_type
  is_address = go k
    where
      go : (j : AddressCapsule) → kind_of op (type_of j) ≡ Address
      go address_assign = rw (o, and-false op.draft)
      go address_request = rw (o, and-false op.draft)
      go route_advertisement = rw (o, and-false op.draft)

  module _ (v : List ℕ) (good : well_formed (type_of k) v ≡ true) where
    all_of_it : extent_of op (type_of k) (length v) ≡ length v
    unfolding extent_of extent_by longest_address_value
    all_of_it = rw (is_address, le-leb (length v) 1024 (formed_short (type_of k) v good))

    report : judged (report_of op (type_of k) (length v)) v ≡ AddressDelivered (type_of k) (length v)
    unfolding report_of report_by longest_address_value judged
    report = rw (is_address, le-leb (length v) 1024 (formed_short (type_of k) v good), good)

    read-alone : parts (capsule_of (type_of k) v) ≡ alone (type_of k) v
    read-alone = one-capsule (type_of k) v (one_byte k) (formed_largest (type_of k) v good)

    delivers : DeliveredTo op (type_of k) v
    unfolding reported
    delivers = (by_the_grammar op (capsule_of (type_of k) v) (rw read-alone (all_of_it, tt)) (rw read-alone tt) ∙ read-alone, report)

-- a row that keeps the rules has known versions alone
known_of : {A : Type 0} (f : Form A) (whole : Bool) (rule : List A → Bool) (es : List A) → whole && is_writable f rule es ≡ true → all_known f es ≡ true
unfolding is_writable
known_of f whole rule es e =
    let short = leb (length (value_bytes f.bytes es)) longest_address_value in
    (both (all_known f es) (rule es) (both short (all_known f es && rule es) (both whole (short && (all_known f es && rule es)) e).1).1).0

read_as : (k : AddressCapsule) (row : List ℕ) → Bytes row → has_large_id k row ≡ false → keeps_rules k row ≡ true → ReadBackAs k (value_of k row) row
unfolding has_large_id keeps_rules value_of
read_as address_assign row b l g = reads_back.0 (entries_in row) (entries_fit row b (not-false _ l)) (known_of addresses (is_whole entry_size row) (all_of good_entry) (entries_in row) g)
read_as address_request row b l g = reads_back.0 (entries_in row) (entries_fit row b (not-false _ l)) (known_of addresses (is_whole entry_size row) good_requests (entries_in row) g)
read_as route_advertisement row b l g = reads_back.1 (ranges_in row) (ranges_fit row b) (known_of ranges (is_whole range_size row) good_ranges (ranges_in row) g)

module _ (k : AddressCapsule) (row out : List ℕ) (place : ℕ) (b : Bytes row) where
  abbrev v : List ℕ
  v = value_of k row

  abbrev capsule : List ℕ
  capsule = capsule_of (type_of k) v

  stands : has_large_id k row ≡ false → is_fine k row ≡ true → place + length capsule ≤ length out → Standing k row out place (length capsule) (sets out place capsule)
  stands l f h =
      let good : well_formed (type_of k) v ≡ true = (both (is_whole (record_size k) row) (well_formed (type_of k) v) f).1 in
      record {
        before = put_front capsule out place h;
        behind = put_back capsule out place h;
        same = length-sets out place capsule;
        bytes = put_bytes capsule out place h;
        capsule = ap parts (put_bytes capsule out place h) ∙ one-capsule (type_of k) v (one_byte k) (formed_largest (type_of k) v good);
        good = good;
        delivered = λ op o. delivers op o k v good;
        reads = read_as k row b l (sym (fine_kept row out place b k l) ∙ f);
      }

pub written_stands : WrittenStands
written_stands k row out place n after b e = go (way_of k row out place)
  where
    go : Way (has_large_id k row) (is_fine k row) (capsule_of (type_of k) (value_of k row)) out place (write_of k row out place) → Standing k row out place n after
    go (refused r d) = impossible (cc (ap (λ (w : Writing). w.answer) (sym d ∙ e)))
    go (wrote l f h d) =
        let c : List ℕ = capsule_of (type_of k) (value_of k row) in
        let x : writing (Ok (length c)) (sets out place c) ≡ writing (Ok n) after = sym d ∙ e in
        let is_after : sets out place c ≡ after = ap (λ (w : Writing). w.output) x in
        let y : Ok (length c) ≡ Ok n = ap (λ (w : Writing). w.answer) x in
        let is_n : length c ≡ n = cc in
        rw (← is_after, ← is_n) (stands k row out place b l f h)
