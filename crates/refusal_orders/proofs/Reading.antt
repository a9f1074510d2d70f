-- Numbers on the wire, readers, listing, translation and the field's value are refused by their lists. Assumes nothing.
use Rattle.std.specs.Prelude.{Option, Result, Ok, Err}
use Rattle.capsule.specs.declared.reader.Ending.{Ending}
use Rattle.http_errors.specs.declared.translation.Action.{Action}
use Rattle.walks.proofs.Words.{ℕ, ◌+◌, ◌-◌, ◌^◌, ◌≤◌, ◌<◌, arith, ◌≡◌, refl, subst, Bool, true, false, cond, ◌↔◌, List, [], ◌∷◌, length}
use Rattle.refusal_orders.proofs.Terms.{Refusal, refusal, unknown_error_or_version, Order, Refuses, Unless, unless, when_true, unless_above, only, passes, stops, goes_on, stops_when, stops_unless, largest, Writing, refuses, write_at, write_varint, split, longest_address_value, Role, Endpoint, Intermediary, Closed, Reader, opted_by, opted, Lent, output_verdict, addresses_verdict, lent_verdict, is_opening, open_of, is_makeable, verdict_of, fed_by, take_of, feed_by, feed_of, close_of, zero_one, no_true, Makes, makeable_exactly, look_of, listing_of, errors, versions, translated, nth-below, nth_past, unknown_error, unknown_version, known, VarintWriting, ReaderOpening, Feeding, Closing, Looking, Listing, Translating, FieldReading, in_use, field_of}
use Rattle.refusal_orders.specs.Orders as order

-- a call with one refusal
alone : {A : Type 0} (refuse : Refusal → A) {t : Bool} {x : A} {m : ℕ} {C : Type 0}
    → ((a b : Refusal) → refuse a ≡ refuse b → a ≡ b)
    → Unless t C
    → ((r : Refusal) → x ≡ refuse r → ⊥)
    → Refuses (λ n. cond t x (refuse (refusal m)) ≡ refuse (refusal n)) ((m, C) ∷ [])
alone {A = A} refuse same u accepts = stops_unless (λ (a : A) (n : ℕ). a ≡ refuse (refusal n)) u (only refuse same _) (λ e. passes (λ n. accepts (refusal n)))

-- ---- numbers on the wire

pub varint-writing : VarintWriting
unfolding write_varint write_at refuses largest
varint-writing n out place =
    let refused : Writing → ℕ → Type 0 = λ w k. w.answer ≡ Err (refusal k) in
    let number = only {A = Result ℕ Refusal} Err (λ a b e. cc) in
    stops_unless refused (unless_above n (2 ^ 62 - 1)) (number 6)
    (λ e. stops_unless refused (unless_above _ _) (number 5) (λ f. passes (λ k d. zero_one (cc))))

-- ---- readers

unmakeable : (r : Reader) → Unless (is_makeable r) (Makes r → ⊥)
unmakeable r = unless (is_makeable r) (makeable_exactly r)

pub reader_opening_lem : ReaderOpening
unfolding open_of is_opening
reader_opening_lem role limit draft addresses = alone Err (λ a b e. cc) (unless_above limit 65535) (λ r e. zero_one (cc))

module _ (r : Reader) (piece : List ℕ) (b : Lent) where
  refused : (Result (Unit {0}) Refusal) → ℕ → Type 0
  refused v n = (feed_by r piece b v).answer ≡ Err (refusal n)

  number : (m n : ℕ) → refused (Err (refusal m)) n ↔ (n ≡ m)
  unfolding refused feed_by
  number = only Err (λ a b e. cc)

  accepted : Refuses (refused (Ok tt)) []
  unfolding refused feed_by take_of fed_by
  accepted = passes (λ n d. zero_one (cc))

  by_output : (role : Role) (room : ℕ) → Refuses (refused (output_verdict role (length piece) room)) ((5, (role ≡ Intermediary) × (room < length piece + 8)) ∷ [])
  unfolding output_verdict
  by_output Endpoint room = goes_on (λ c. let e : Endpoint ≡ Intermediary = c.0 in zero_one (cc)) accepted
  by_output Intermediary room =
      let u = unless_above (length piece + 8) room in
      stops_unless refused (record { on = λ e. (refl, u.on e); off = λ e c. u.off e c.1 }) (number 5) (λ e. accepted)

  by_addresses : (role : Role) (addresses : Bool) (room : ℕ) (v : (Result (Unit {0}) Refusal)) {rest : Order}
      → Refuses (refused v) rest
      → Refuses (refused (addresses_verdict (opted_by role addresses) room v)) ((18, (role ≡ Endpoint) × (addresses ≡ true) × (room < 1024)) ∷ rest)
  unfolding addresses_verdict opted_by longest_address_value
  by_addresses Intermediary addresses room v s = goes_on (λ c. let e : Intermediary ≡ Endpoint = c.0 in zero_one (cc)) s
  by_addresses Endpoint false room v s = goes_on (λ c. no_true c.1) s
  by_addresses Endpoint true room v s =
      let u = unless_above 1024 room in
      stops_unless refused (record { on = λ e. (refl, refl, u.on e); off = λ e c. u.off e c.2 }) (number 18) (λ e. s)

pub feeding : Feeding
unfolding feed_of verdict_of lent_verdict opted refused
feeding r piece b =
    stops_unless (refused r piece b) (unmakeable r) (number r piece b 1)
    (λ m. stops_when (refused r piece b) (when_true r.finished) (number r piece b 2)
    (λ f. stops_unless (refused r piece b) (unless_above r.opening.limit (length b.gathering)) (number r piece b 4)
    (λ g. by_addresses r piece b r.opening.role r.opening.addresses (length b.addresses) _
    (by_output r piece b r.opening.role (length b.output)))))

pub closing : Closing
unfolding close_of
closing r =
    let refused : Closed → ℕ → Type 0 = λ c n. c.answer ≡ Err (refusal n) in
    let number = only {A = Result Ending Refusal} Err (λ a b e. cc) in
    stops_unless refused (unmakeable r) (number 1)
    (λ m. stops_when refused (when_true r.finished) (number 2) (λ f. passes (λ n e. zero_one (cc))))

pub looking : Looking
unfolding look_of
looking r = alone Err (λ a b e. cc) (unmakeable r) (λ w e. zero_one (cc))

-- ---- one-shot listing

pub listing : Listing
unfolding listing_of
listing s = alone Err (λ a b e. cc) (unless_above (length s) 4096) (λ r e. zero_one (cc))

-- ---- translation

pub translating : Translating
translating error version =
    split 1 error
    (λ a. split error 7
    (λ b. split 1 version
    (λ c. split version 3
    (λ d. goes_on (λ n. n (a, b, c, d)) (passes (λ n e. let k = known error version a b c d in zero_one (cc))))
    (λ d. unknown (unknown_version error version (nth_past versions version d)) (λ h. let l : version ≤ 3 = h.3 in omega arith)))
    (λ c. unknown (unknown_version error version (nth-below versions version c)) (λ h. let l : 1 ≤ version = h.2 in omega arith)))
    (λ b. unknown (unknown_error error version (nth_past errors error b)) (λ h. let l : error ≤ 7 = h.1 in omega arith)))
    (λ a. unknown (unknown_error error version (nth-below errors error a)) (λ h. let l : 1 ≤ error = h.0 in omega arith))
  where
    unknown : Err unknown_error_or_version ≡ translated error version
        → ((1 ≤ error) × (error ≤ 7) × (1 ≤ version) × (version ≤ 3) → ⊥)
        → Refuses (λ n. translated error version ≡ Err (refusal n)) (order.translation error version)
    unknown e h = stops h (λ n. subst (λ (x : Result (Option Action) Refusal). (x ≡ Err (refusal n)) ↔ (n ≡ 17)) e (only Err (λ a b e. cc) 17 n))

-- ---- the field's value

pub field_reading : FieldReading
unfolding field_of
field_reading value = alone Err (λ a b e. cc) (unless_above (length value) 1024) (read (in_use value))
  where
    read : (t : Bool) (r : Refusal) → cond t (Ok true) (Ok false) ≡ Err r → ⊥
    read true r e = zero_one (cc)
    read false r e = zero_one (cc)
