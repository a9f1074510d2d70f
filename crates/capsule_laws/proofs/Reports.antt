-- What an ended capsule reports and what is forwarded, for every role, limit, draft setting and opting in. Assumes nothing.
use Rattle.std.specs.Prelude.{Option, Some, None}
use Rattle.walks.proofs.Words.{◌≡◌, arith, refl, sym, ap, ◌∙◌, ◌↔◌, subst, ℕ, ◌≤◌, ◌<◌, Bool, true, false, ◌&&◌, ◌||◌, List, [], ◌∷◌, ◌++◌, leb, eqb}
use Rattle.capsule_laws.proofs.Terms.{is_address_type, longest_address_value, well_formed, Role, Endpoint, Intermediary, Kind, Datagram, Address, Unknown, Opening, Report, Delivered, Dropped, Skipped, Passed, AddressDelivered, Malformed, Stage, in_type, in_length, in_value, Capsule, opted, kind_of, forwards_by, forwards, finishes, finishes_in, parts_for, only_if, from_capsules, from_tail, from_parts, forwarded, reported, zero_one, no_true, IsAddress, IsDatagram, MalformedExactly, AddressDeliveredExactly, DatagramExactly, DeliveredExactly, DroppedExactly, PassedExactly, SkippedExactly, FinishesExactly, if_passed, passed_bytes, TypeComplete, ForwardedExactly}
use Rattle.capsule_laws.proofs.{Graphs.Reports, Graphs.delivered, Graphs.dropped, Graphs.skipped, Graphs.passed, Graphs.address, Graphs.malformed, Graphs.report_is, Graphs.reports_of, Addresses.address_exactly, Addresses.datagram_test, Addresses.by_tests}

-- ---- the kind

datagram_is : (op : Opening) (t : ℕ) → kind_of op t ≡ Datagram → IsDatagram op t
datagram_is op t k = go (eqb t 0 || (op.draft && eqb t 0xff37a5)) (opted op && is_address_type t) refl refl
  where
    go : (d a : Bool) → eqb t 0 || (op.draft && eqb t 0xff37a5) ≡ d → opted op && is_address_type t ≡ a → IsDatagram op t
    go true a e f = (datagram_test op t).0 e
    go false true e f = zero_one (let z = sym k ∙ by_tests op t false true e f in cc)
    go false false e f = zero_one (let z = sym k ∙ by_tests op t false false e f in cc)

pub datagram_exactly : DatagramExactly
datagram_exactly op t = (datagram_is op t, λ d. by_tests op t true (opted op && is_address_type t) ((datagram_test op t).1 d) refl)

-- any other kind: neither a DATAGRAM nor an address capsule
neither : (op : Opening) (t : ℕ) → kind_of op t ≡ Unknown → (IsDatagram op t → ⊥) × (IsAddress op t → ⊥)
neither op t k = (λ d. zero_one (let z = sym k ∙ (datagram_exactly op t).1 d in cc), λ a. zero_one (let z = sym k ∙ (address_exactly op t).1 a in cc))

unknown_is : (op : Opening) (t : ℕ) → (IsDatagram op t → ⊥) → (IsAddress op t → ⊥) → kind_of op t ≡ Unknown
unknown_is op t d a = go (kind_of op t) refl
  where
    go : (k : Kind) → kind_of op t ≡ k → kind_of op t ≡ Unknown
    go Datagram k = absurd (d (datagram_is op t k))
    go Address k = absurd (a ((address_exactly op t).0 k))
    go Unknown k = k

-- an intermediary has no address capsules
passed_is : (op : Opening) (t : ℕ) → op.role ≡ Intermediary → (IsDatagram op t → ⊥) → kind_of op t ≡ Unknown
passed_is op t r d = unknown_is op t d (λ a. zero_one (let z = sym r ∙ a.0 in cc))

-- ---- the table

module _ (op : Opening) (c : Capsule) where
  abbrev Told : Report → Type 0
  Told r = Reports op c.ctype c.size c.value r

  -- what a report says of the capsule
  abbrev Says : Report → Type 0
  Says (Delivered n) = IsDatagram op c.ctype × (c.size ≡ n) × (n ≤ op.limit)
  Says (Dropped n) = IsDatagram op c.ctype × (c.size ≡ n) × (op.limit < n)
  Says (Skipped t n) = (c.ctype ≡ t) × (c.size ≡ n) × (op.role ≡ Endpoint) × (IsDatagram op t → ⊥) × (IsAddress op t → ⊥)
  Says (Passed t n) = (c.ctype ≡ t) × (c.size ≡ n) × (op.role ≡ Intermediary) × (IsDatagram op t → ⊥)
  Says (AddressDelivered t n) = (c.ctype ≡ t) × (c.size ≡ n) × IsAddress op t × (leb n 1024 && well_formed t c.value ≡ true)
  Says (Malformed t n) = (c.ctype ≡ t) × (c.size ≡ n) × IsAddress op t × (leb n 1024 && well_formed t c.value ≡ false)

  says : {r : Report} → Told r → Says r
  unfolding longest_address_value
  says (delivered k h) = (datagram_is op c.ctype k, refl, h)
  says (dropped k h) = (datagram_is op c.ctype k, refl, h)
  says (skipped k e) = (refl, refl, e, (neither op c.ctype k).0, (neither op c.ctype k).1)
  says (passed k e) = (refl, refl, e, (neither op c.ctype k).0)
  says (address k e) = (refl, refl, (address_exactly op c.ctype).0 k, e)
  says (malformed k e) = (refl, refl, (address_exactly op c.ctype).0 k, e)

  told : (r : Report) → Says r → Told r
  unfolding longest_address_value
  told (Delivered n) (d, e, h) = rw (← e) (delivered ((datagram_exactly op c.ctype).1 d) (omega arith))
  told (Dropped n) (d, e, h) = rw (← e) (dropped ((datagram_exactly op c.ctype).1 d) (omega arith))
  told (Skipped t n) (f, e, r, d, a) = rw (← f, ← e) (skipped (ap (kind_of op) f ∙ unknown_is op t d a) r)
  told (Passed t n) (f, e, r, d) = rw (← f, ← e) (passed (ap (kind_of op) f ∙ passed_is op t r d) r)
  told (AddressDelivered t n) (f, e, a, g) = rw (← f, ← e) (address (ap (kind_of op) f ∙ (address_exactly op t).1 a) (rw (f, e) g))
  told (Malformed t n) (f, e, a, g) = rw (← f, ← e) (malformed (ap (kind_of op) f ∙ (address_exactly op t).1 a) (rw (f, e) g))

  exactly : (r : Report) → (reported op c ≡ r) ↔ Says r
  unfolding reported
  exactly r = (λ e. says (subst Told e (reports_of op c.ctype c.size c.value)), λ h. report_is (told r h))

pub delivered_exactly : DeliveredExactly
delivered_exactly op c n = exactly op c (Delivered n)

pub dropped_exactly : DroppedExactly
dropped_exactly op c n = exactly op c (Dropped n)

pub passed_exactly : PassedExactly
passed_exactly op c t n = exactly op c (Passed t n)

pub skipped_exactly : SkippedExactly
skipped_exactly op c t n = exactly op c (Skipped t n)

pub malformed_exactly : MalformedExactly
malformed_exactly op c t n = exactly op c (Malformed t n)

pub address-delivered_exactly : AddressDeliveredExactly
address-delivered_exactly op c t n = exactly op c (AddressDelivered t n)

-- ---- forwarded bytes

-- only capsules of no other kind are forwarded
stays : (r : Role) → (forwards_by r Datagram ≡ false) × (forwards_by r Address ≡ false)
unfolding forwards_by
stays Endpoint = (refl, refl)
stays Intermediary = (refl, refl)

capsule-bytes : (op : Opening) (c : Capsule) → only_if (forwards op c.ctype) c.bytes ≡ if_passed (reported op c) c.bytes
unfolding reported
capsule-bytes op c = go (reports_of op c.ctype c.size c.value)
  where
    go : {r : Report} → Told op c r → only_if (forwards op c.ctype) c.bytes ≡ if_passed r c.bytes
    go (delivered k h) = unfold forwards only_if if_passed in rw (k, (stays op.role).0)
    go (dropped k h) = unfold forwards only_if if_passed in rw (k, (stays op.role).0)
    go (skipped k e) = unfold forwards forwards_by only_if if_passed in rw (k, e)
    go (passed k e) = unfold forwards forwards_by only_if if_passed in rw (k, e)
    go (address k e) = unfold forwards only_if if_passed in rw (k, (stays op.role).1)
    go (malformed k e) = unfold forwards only_if if_passed in rw (k, (stays op.role).1)

capsules_bytes : (op : Opening) (cs : List Capsule) → from_capsules op cs ≡ passed_bytes op cs
unfolding from_capsules passed_bytes
capsules_bytes op [] = refl
capsules_bytes op (c ∷ cs) = λ i. capsule-bytes op c i ++ capsules_bytes op cs i

-- the tail, by whether its type is forwarded
tail_by : (op : Opening) (r : List ℕ) (x : Stage) (t : ℕ) (b : Bool) → TypeComplete x t → forwards op t ≡ b → from_tail op r x ≡ only_if b r
unfolding from_tail
tail_by op r in_type t b h e = absurd h
tail_by op r (in_length u head) t b h e = ap (λ (x : Bool). only_if x r) (ap (forwards op) h ∙ e)
tail_by op r (in_value u n head) t b h e = ap (λ (x : Bool). only_if x r) (ap (forwards op) h ∙ e)

forwards_other : (op : Opening) (t : ℕ) → op.role ≡ Intermediary → (IsDatagram op t → ⊥) → forwards op t ≡ true
unfolding forwards forwards_by
forwards_other op t r d = λ i. forwards_by (r i) (passed_is op t r d i)

datagram_stays : (op : Opening) (t : ℕ) → IsDatagram op t → forwards op t ≡ false
unfolding forwards
datagram_stays op t d = rw ((datagram_exactly op t).1 d) (stays op.role).0

module _ (op : Opening) (e : op.role ≡ Endpoint) where
  endpoint_stays : (t : ℕ) → forwards op t ≡ false
  unfolding forwards forwards_by
  endpoint_stays t = rw e

  no_capsules : (cs : List Capsule) → from_capsules op cs ≡ []
  unfolding from_capsules only_if
  no_capsules [] = refl
  no_capsules (c ∷ cs) = (λ i. only_if (endpoint_stays c.ctype i) c.bytes ++ from_capsules op cs) ∙ no_capsules cs

  no_tail : (r : List ℕ) (x : Stage) → from_tail op r x ≡ []
  unfolding from_tail only_if
  no_tail r in_type = refl
  no_tail r (in_length t head) = ap (λ (b : Bool). only_if b r) (endpoint_stays t)
  no_tail r (in_value t n head) = ap (λ (b : Bool). only_if b r) (endpoint_stays t)

pub forwarded_exactly : ForwardedExactly
unfolding forwarded from_parts only_if
forwarded_exactly op s =
    let p = parts_for op s in
    record {
      tail = from_tail op p.tail p.stage;
      bytes = ap (λ (l : List ℕ). l ++ from_tail op p.tail p.stage) (capsules_bytes op p.capsules);
      tail-forwarded = λ t r h d. tail_by op p.tail p.stage t true h (forwards_other op t r d);
      datagram_held = λ t h d. tail_by op p.tail p.stage t false h (datagram_stays op t d);
      type_held = λ e. ap (from_tail op p.tail) e ∙ (unfold from_tail in refl);
      endpoint_none = λ e. (λ i. no_capsules op e p.capsules i ++ no_tail op e p.tail p.stage i);
    }

-- ---- what finishes a reader

malformed_last : (r : Report) → (finishes r ≡ true) ↔ ((t : ℕ) × (n : ℕ) × (r ≡ Malformed t n))
unfolding finishes
malformed_last (Delivered n) = (λ e. no_true e, λ h. zero_one (cc h.2))
malformed_last (Dropped n) = (λ e. no_true e, λ h. zero_one (cc h.2))
malformed_last (Skipped t n) = (λ e. no_true e, λ h. zero_one (cc h.2))
malformed_last (Passed t n) = (λ e. no_true e, λ h. zero_one (cc h.2))
malformed_last (AddressDelivered t n) = (λ e. no_true e, λ h. zero_one (cc h.2))
malformed_last (Malformed t n) = (λ e. (t, n, refl), λ h. refl)

last_ended : (e : Option Report) → (finishes_in e ≡ true) ↔ ((t : ℕ) × (n : ℕ) × (e ≡ Some (Malformed t n)))
unfolding finishes_in
last_ended None = (λ e. no_true e, λ h. zero_one (cc h.2))
last_ended (Some r) = (
  λ e. (let m = (malformed_last r).0 e in (m.0, m.1, ap Some m.2)),
  λ h. (malformed_last r).1 (h.0, h.1, cc h.2),
)

pub finishes_exactly : FinishesExactly
finishes_exactly = (malformed_last, last_ended)
