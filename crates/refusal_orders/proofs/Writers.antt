-- The writers of capsules and frames are refused each by its list. Assumes nothing.
use Rattle.std.specs.Prelude.{Some, Result, Ok, Err}
use Rattle.wire.specs.declared.units.Quarter.{Quarter}
use Rattle.walks.proofs.Words.{◌≡◌, refl, sym, ap, subst, ◌∙◌, ℕ, suc, ◌+◌, ◌/◌, ◌%◌, ◌<◌, ◌&&◌, not, arith, Bool, true, false, cond, true≢false, false≢true, ◌↔◌, List, [], ◌∷◌, length, get_or, length-append, leb, eqb, eq-eqb, eqb-true}
use Rattle.refusal_orders.proofs.Terms.{Refusal, refusal, Order, Refuses, Unless, unless, unless_above, only, passes, goes_on, stops_unless, StreamId, IsRequestStream, encode, Writing, refuses, write_at, both, parted, StreamRecord, blank, send_open, has_semantics, GoodTable, InTable, Any, Table, is_bad, find, entry_of, at_place, zero_one, quarter, capsule_header, capsule_bytes, frame_bytes, agreed, sending_record, sending_entry, sending_of, put_capsule, put_frame, put_capsule_header, put_frame_header, capsule_written, frame_written, frame_header_written, write_capsule, write_frame, write_frame_header, assign, request, route, all_of, well_formed, is_whole, entries_in, id_fits, AddressCapsule, address_assign, address_request, route_advertisement, LargeId, has_large_id, type_of, value_of, write_of, capsule_of, write_value, write_addresses, write_routes, whole_exactly, large_id_exactly, TooShort, WritingRefuses, CapsuleWriting, FrameWriting, FrameHeaderWriting, DatagramWriting, DatagramHeaderWriting, AddressWriting}
use Rattle.refusal_orders.proofs.Tables.{asked, present}

abbrev writes : Writing → ℕ → Type 0
writes w n = w.answer ≡ Err (refusal n)

number : (m n : ℕ) → (◌≡◌ {A = Result ℕ Refusal} (Err (refusal m)) (Err (refusal n))) ↔ (n ≡ m)
number = only Err (λ a b e. cc)

-- ---- what is put at a place

-- 5, of bytes as many as `need`
room : (bytes out : List ℕ) (place need : ℕ) → length bytes ≡ need → WritingRefuses (write_at bytes out place) ((5, TooShort out place need) ∷ [])
unfolding write_at refuses
room bytes out place need e =
    subst (λ (k : ℕ). WritingRefuses (write_at bytes out place) ((5, TooShort out place k) ∷ [])) e
    (stops_unless writes (unless_above (place + length bytes) (length out)) (number 5) (λ l. passes (λ n d. zero_one (cc))))

-- 6: a payload of n bytes
small : {rest : Order} (n : ℕ) (out : List ℕ) (w : Writing) → WritingRefuses w rest → WritingRefuses (cond (leb n 65535) w (refuses (refusal 6) out)) ((6, 65535 < n) ∷ rest)
unfolding refuses
small n out w more = stops_unless writes (unless_above n 65535) (number 6) (λ l. more)

pub datagram_writing_lem : DatagramWriting
unfolding put_capsule capsule_bytes capsule_header
datagram_writing_lem payload out place =
    small (length payload) out _ (room (capsule_bytes payload) out place _ (let l = length-append (encode (length payload)) payload in omega arith))

pub datagram_header-writing : DatagramHeaderWriting
unfolding put_capsule_header capsule_header
datagram_header-writing n out place = small n out _ (room (capsule_header n) out place (suc (length (encode n))) refl)

-- 6, 14, 5: of a frame of `whole` bytes these are written
fits : (n whole path : ℕ) (bytes out : List ℕ) (place : ℕ)
    → WritingRefuses (cond (leb n 65535) (cond (leb whole path) (write_at bytes out place) (refuses (refusal 14) out)) (refuses (refusal 6) out))
    ((6, 65535 < n) ∷ (14, path < whole) ∷ (5, TooShort out place (length bytes)) ∷ [])
unfolding refuses
fits n whole path bytes out place = small n out _ (stops_unless writes (unless_above whole path) (number 14) (λ l. room bytes out place (length bytes) refl))

-- ---- on a stream of the table

agreed_exactly : (ours peers : ℕ) → (agreed ours peers ≡ true) ↔ ((ours ≡ 1) × (peers ≡ 1))
unfolding agreed
agreed_exactly ours peers = (
  λ e. let p = parted (eqb ours 1) (eqb peers 1) e in (eqb-true ours 1 p.0, eqb-true peers 1 p.1),
  λ h. both (eqb ours 1) (eqb peers 1) (eq-eqb ours 1 h.0) (eq-eqb peers 1 h.1),
)

module _ (w : Result Quarter Refusal → Writing) (kept : (r : Refusal) → (w (Err r)).answer ≡ Err r) (t : Table) (id : StreamId) where
  abbrev sends : Result Quarter Refusal → ℕ → Type 0
  sends s n = (w s).answer ≡ Err (refusal n)

  sent : (m n : ℕ) → sends (Err (refusal m)) n ↔ (n ≡ m)
  sent m n = rw (kept (refusal m)) (number m n)

  abbrev to : Result Quarter Refusal
  to = Ok (quarter (id.0 / 4))

  -- a flag of the stream's record
  flag_of_lem : (flag : StreamRecord → Bool) (i : ℕ) → is_bad t ≡ false → find (id.0 / 4) t ≡ Some i
      → Unless (flag (get_or t i blank)) (InTable t (id.0 / 4) (λ r. flag r ≡ false))
  flag_of_lem flag i b e =
      let there = at_place t (id.0 / 4) (λ r. flag r ≡ false) i b e in
      record { on = there.1; off = λ on s. true≢false (sym on ∙ there.0 s) }

  abbrev open_then : Order → Order
  open_then rest = (12, InTable t (id.0 / 4) (λ r. send_open r ≡ false)) ∷ (13, InTable t (id.0 / 4) (λ r. has_semantics r ≡ false)) ∷ rest

  -- 12, 13
  opened : {rest : Order} (i : ℕ) → is_bad t ≡ false → find (id.0 / 4) t ≡ Some i → Refuses (sends to) rest
      → Refuses (sends (sending_record (get_or t i blank) (quarter (id.0 / 4)) true)) (open_then rest)
  unfolding sending_record
  opened i b e more =
      stops_unless sends (flag_of_lem (λ r. send_open r) i b e) (sent 12)
      (λ o. stops_unless sends (flag_of_lem (λ r. has_semantics r) i b e) (sent 13) (λ s. more))

  -- 11, 12, 13
  settled : {rest : Order} (ours peers i : ℕ) → is_bad t ≡ false → find (id.0 / 4) t ≡ Some i → Refuses (sends to) rest
      → Refuses (sends (sending_record (get_or t i blank) (quarter (id.0 / 4)) (agreed ours peers))) ((11, (ours ≡ 1) × (peers ≡ 1) → ⊥) ∷ open_then rest)
  unfolding sending_record
  settled ours peers i b e more = stops_unless sends (unless (agreed ours peers) (agreed_exactly ours peers)) (sent 11) (λ s. opened i b e more)

  -- 15, 7, 10, and then what is asked of the stream's record
  named : {rest : Order} (settings : Bool)
      → ((i : ℕ) → is_bad t ≡ false → find (id.0 / 4) t ≡ Some i → Refuses (sends (sending_record (get_or t i blank) (quarter (id.0 / 4)) settings)) rest)
      → Refuses (sends (sending_of t id settings)) ((15, GoodTable t → ⊥) ∷ (7, IsRequestStream id.0 → ⊥) ∷ (10, InTable t (id.0 / 4) Any → ⊥) ∷ rest)
  unfolding sending_of sending_entry
  named settings more =
      asked sends Err sent t id (λ q. sending_entry (entry_of q.0 t) q settings)
      (λ b. present sends Err sent t id (λ x. sending_entry x (quarter (id.0 / 4)) settings) (sent 10) (λ i e. more i b e))

pub capsule-writing : CapsuleWriting
unfolding write_capsule capsule_written refuses
capsule-writing t id payload out place =
    let w : Result Quarter Refusal → Writing = λ s. capsule_written s payload out place in
    named w (λ r. refl) t id true (λ i b e. opened w (λ r. refl) t id i b e (datagram_writing_lem payload out place))

pub frame-writing : FrameWriting
unfolding write_frame frame_written put_frame frame_bytes refuses
frame-writing t id ours peers path payload out place =
    let w : Result Quarter Refusal → Writing = λ s. frame_written s path payload out place in
    let q = id.0 / 4 in
    let l = length-append (encode q) payload in
    named w (λ r. refl) t id (agreed ours peers) (λ i b e. settled w (λ r. refl) t id ours peers i b e
    (subst (λ (k : ℕ). WritingRefuses (put_frame q path payload out place) ((6, 65535 < length payload) ∷ (14, path < k) ∷ (5, TooShort out place k) ∷ [])) l
    (fits (length payload) (length (frame_bytes q payload)) path (frame_bytes q payload) out place)))

pub frame-header-writing : FrameHeaderWriting
unfolding write_frame_header frame_header_written put_frame_header refuses
frame-header-writing t id ours peers path n out place =
    let w : Result Quarter Refusal → Writing = λ s. frame_header_written s path n out place in
    let q = id.0 / 4 in
    named w (λ r. refl) t id (agreed ours peers) (λ i b e. settled w (λ r. refl) t id ours peers i b e
    (fits n (length (encode q) + n) path (encode q) out place))

-- ---- address capsules

module _ (size t : ℕ) (row v out : List ℕ) (place : ℕ) where
  fine : (is_whole size row && well_formed t v ≡ true) ↔ ((length row % size ≡ 0) × (well_formed t v ≡ true))
  fine = (
    λ e. let p = parted (is_whole size row) (well_formed t v) e in ((whole_exactly size row).0 p.0, p.1),
    λ h. both (is_whole size row) (well_formed t v) ((whole_exactly size row).1 h.0) h.1,
  )

  -- 26, 5
  value-writing : WritingRefuses (write_value (is_whole size row) t v out place)
      ((26, (length row % size ≡ 0) × (well_formed t v ≡ true) → ⊥) ∷ (5, TooShort out place (length (capsule_of t v))) ∷ [])
  unfolding write_value refuses
  value-writing = stops_unless writes (unless (is_whole size row && well_formed t v) fine) (number 26) (λ e. room (capsule_of t v) out place (length (capsule_of t v)) refl)

large_when : (k : AddressCapsule) (row : List ℕ) → has_large_id k row ≡ not (all_of id_fits (entries_in row)) → Unless (all_of id_fits (entries_in row)) (LargeId k row)
large_when k row same = record {
  on = λ e. (large_id_exactly k row).0 (same ∙ ap not e);
  off = λ e l. false≢true (ap not (sym e) ∙ sym same ∙ (large_id_exactly k row).1 l);
}

pub address-writing : AddressWriting
unfolding write_of write_addresses write_routes has_large_id type_of value_of refuses
address-writing address_assign row out place = stops_unless writes (large_when address_assign row refl) (number 6) (λ e. value-writing 32 assign row _ out place)
address-writing address_request row out place = stops_unless writes (large_when address_request row refl) (number 6) (λ e. value-writing 32 request row _ out place)
address-writing route_advertisement row out place = goes_on (λ l. l.0 refl) (value-writing 34 route row _ out place)
