-- No refusal has number 0 (specs/Claims.antt): no call's list of refusals (crate refusal_orders) has it. Assumes nothing.
use Rattle.std.specs.Prelude.{Option}
use Rattle.wire.specs.declared.units.Quarter.{Quarter}
use Rattle.walks.proofs.Words.{ℕ, suc, List, Bool, true, false, cond, ◌&&◌, not, [], ◌∷◌, ◌≡◌, refl, ap, ◌∙◌, inl, inr, length, leb, eqb}
use Rattle.capi.proofs.Terms.{Refusal, refusal, Order, First, Refuses, Writing, refuses, write_at, parted, all_of, well_formed, entry_bytes, value_bytes, entry_size, is_whole, entries_in, id_fits, route_advertisement, write_of, write_value, write_addresses, zero_one, varint-writing, reader_opening_lem, feeding, closing, looking, listing, translating, field_reading, stream-opening, side_closing, stream_finding, judging, datagram_writing_lem, datagram_header-writing, capsule-writing, frame-writing, frame-header-writing, address-writing, quarter_answer, Numbered, WritingNumbered, NumberedRefusals}

abbrev no_zero : Order → Bool
no_zero [] = true
no_zero (x ∷ rest) = not (eqb x.0 0) && no_zero rest

-- the first whose condition holds is one of the list
not_first : (o : Order) → no_zero o ≡ true → First 0 o → ⊥
not_first [] e f = f
not_first (x ∷ rest) e f = elim f [ inl h ↦ zero_one (cc (rw (← h.0) at e)) | inr h ↦ not_first rest (parted (not (eqb x.0 0)) (no_zero rest) e).1 h.1 ]

numbered : {A : Type 0} (refused : Refusal → A) {a : A} {o : Order} → Refuses (λ n. a ≡ refused (refusal n)) o → no_zero o ≡ true → Numbered refused a
numbered refused {o = o} law free why e z = not_first o free ((law.exactly 0).0 (e ∙ ap (λ (n : ℕ). refused (refusal n)) z))

-- an address capsule of any type
either : (t : Bool) (x y : Writing) → WritingNumbered x → WritingNumbered y → WritingNumbered (cond t x y)
either true x y a b = a
either false x y a b = b

addresses : (t : ℕ) (row out : List ℕ) (place : ℕ) → WritingNumbered (write_addresses t row out place)
unfolding write_addresses write_value write_at refuses
addresses t row out place =
    let nonzero : (n : ℕ) → WritingNumbered (refuses (refusal (suc n)) out) = λ n why e z. zero_one (cc) in
    either (all_of id_fits (entries_in row)) _ _
    (either (is_whole entry_size row && well_formed t (value_bytes entry_bytes (entries_in row))) _ _ (either (leb _ (length out)) _ _ (λ why e. zero_one (cc)) (nonzero 4)) (nonzero 25))
    (nonzero 5)

pub numbered_refusals : NumberedRefusals
unfolding quarter_answer write_of
numbered_refusals = record {
  opens = λ role limit draft addresses. numbered _ (reader_opening_lem role limit draft addresses) refl;
  feeds = λ r p b. numbered _ (feeding r p b) refl;
  closes = λ r. numbered _ (closing r) refl;
  looks = λ r. numbered _ (looking r) refl;
  lists = λ s. numbered _ (listing s) refl;
  writes-varint = λ n out place. numbered _ (varint-writing n out place) refl;
  opens-stream = λ t id. numbered _ (stream-opening t id) refl;
  closes_side = λ t id side. numbered _ (side_closing t id side) refl;
  quarters = λ id e z. zero_one (cc (ap (λ (q : Option Quarter). (quarter_answer q).refusal) e, z));
  judges = λ t streams limit frame. numbered _ (judging t streams limit frame) refl;
  writes-capsule = λ t id payload out place. numbered _ (capsule-writing t id payload out place) refl;
  writes-frame = λ t id ours peers path payload out place. numbered _ (frame-writing t id ours peers path payload out place) refl;
  finds_stream = λ t id. numbered _ (stream_finding t id) refl;
  writes-frame-header = λ t id ours peers path n out place. numbered _ (frame-header-writing t id ours peers path n out place) refl;
  writes_datagram = λ payload out place. numbered _ (datagram_writing_lem payload out place) refl;
  writes_datagram_header = λ n out place. numbered _ (datagram_header-writing n out place) refl;
  writes-addresses = addresses;
  writes_routes = λ row out place. numbered _ (address-writing route_advertisement row out place) refl;
  reads_field = λ value. numbered _ (field_reading value) refl;
  translates = λ error version. numbered _ (translating error version) refl;
}
