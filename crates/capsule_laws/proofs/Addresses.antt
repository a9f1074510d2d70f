-- Address capsules, for every role, limit, draft setting and opting in. Assumes nothing.
use Rattle.std.specs.Prelude.{Result, Ok, Err}
use Rattle.walks.proofs.Words.{◌≡◌, refl, sym, ap, ◌∙◌, ◌↔◌, inl, inr, ℕ, ◌≤◌, ◌<◌, arith, Bool, true, false, cond, ◌&&◌, ◌||◌, List, length, leb, eqb, leb-true, le-leb, lt-leb, eqb-true, eq-eqb}
use Rattle.capsule_laws.proofs.Terms.{unmakeable_state, finished, gathering_too_short, addresses_too_short, output_too_short, Refusal, both, parted, is_address_type, longest_address_value, Role, Endpoint, Intermediary, Kind, Datagram, Address, Unknown, Opening, Reader, opted, opted_by, kind_of, extent_by, extent_of, gathers_by, gathers, keeps_by, keeps, Lent, lent_verdict, open_of, is_opening, is_makeable, verdict_of, fed_by, take_of, feed_by, feed_of, kind_address, zero_one, no_true, endpoint_on, addresses-short, IsAddress, AddressExactly, CompleteExactly, AddressesTooShortExactly, IsDatagram, GathersExactly, KeepsExactly, OpenExactly, OthersAsBefore}
use Rattle.capsule_laws.specs.Before as before
use Rattle.capsule_laws.proofs.Graphs.{Lends, short_gathering, short_addresses, short_output, enough, lends}

-- ---- which capsules

opted_in_lem : (op : Opening) → opted op ≡ true → (op.role ≡ Endpoint) × (op.addresses ≡ true)
unfolding opted
opted_in_lem op e = go op.role refl e
  where
    go : (r : Role) → op.role ≡ r → opted_by r op.addresses ≡ true → (op.role ≡ Endpoint) × (op.addresses ≡ true)
    go Endpoint d f = (d, unfold opted_by in f)
    go Intermediary d f = unfold opted_by in no_true f

is_address : (op : Opening) (t : ℕ) → kind_of op t ≡ Address → IsAddress op t
unfolding kind_of
is_address op t e = go (eqb t 0 || (op.draft && eqb t 0xff37a5)) (opted op) (is_address_type t) refl refl e
  where
    go : (d o a : Bool) → opted op ≡ o → is_address_type t ≡ a → cond d Datagram (cond (o && a) Address Unknown) ≡ Address → IsAddress op t
    go true o a h i f = zero_one (cc)
    go false true true h i f =
        let q = opted_in_lem op h in
        let j : (leb 1 t ≡ true) × (leb t 3 ≡ true) = parted (leb 1 t) (leb t 3) (unfold is_address_type in i) in
        (q.0, q.1, leb-true 1 t j.0, leb-true t 3 j.1)
    go false true false h i f = zero_one (cc)
    go false false a h i f = zero_one (cc)

kind_is : (op : Opening) (t : ℕ) → IsAddress op t → kind_of op t ≡ Address
unfolding is_address_type
kind_is op t a = sym (kind_address op t (both (opted op) (leb 1 t && leb t 3) (endpoint_on op a.0 a.1) (both (leb 1 t) (leb t 3) (le-leb 1 t a.2) (le-leb t 3 a.3))))

pub address_exactly : AddressExactly
address_exactly op t = (is_address op t, kind_is op t)

-- ---- when it is complete

pub complete_exactly : CompleteExactly
complete_exactly op t n = record { too_long = long; all = whole }
  where
    long : IsAddress op t → 1024 < n → extent_of op t n ≡ 0
    long a h = unfold extent_of extent_by longest_address_value in rw (kind_is op t a, lt-leb n 1024 h)

    whole : (IsAddress op t → n ≤ 1024) → extent_of op t n ≡ n
    whole h = unfold extent_of in go (kind_of op t) refl
      where
        go : (k : Kind) → kind_of op t ≡ k → extent_by k n ≡ n
        go Datagram e = unfold extent_by in refl
        go Address e = unfold extent_by longest_address_value in rw (le-leb n 1024 (h (is_address op t e)))
        go Unknown e = unfold extent_by in refl

-- ---- refusal 18

other_number : (w : Refusal) → (w.0 ≡ 18 → ⊥) → ◌≡◌ {A = Result (Unit {0}) Refusal} (Err w) (Err addresses_too_short) → ⊥
other_number w h e = let d : w ≡ addresses_too_short = cc in h (ap (λ (x : Refusal). x.0) d)

module _ (r : Reader) (p : List ℕ) (b : Lent) where
  says : (Result (Unit {0}) Refusal)
  says = verdict_of r (length p) (length b.gathering) (length b.addresses) (length b.output)

  abbrev Short : Type 0
  Short =
      (is_makeable r ≡ true)
      × (r.finished ≡ false)
      × (r.opening.limit ≤ length b.gathering)
      × (r.opening.role ≡ Endpoint)
      × (r.opening.addresses ≡ true)
      × (length b.addresses < 1024)

  -- what is lent is refused so only for the second buffer
  by_lent : {v : (Result (Unit {0}) Refusal)} → Lends r.opening (length p) (length b.gathering) (length b.addresses) (length b.output) v → v ≡ Err addresses_too_short
      → (r.opening.limit ≤ length b.gathering) × (opted r.opening ≡ true) × (length b.addresses < 1024)
  unfolding longest_address_value
  by_lent (short_gathering h) e = absurd (other_number gathering_too_short (λ z. omega arith) e)
  by_lent (short_addresses h o l) e = (h, o, l)
  by_lent short_output e = absurd (other_number output_too_short (λ z. omega arith) e)
  by_lent enough e = zero_one (cc)

  by_state : says ≡ Err addresses_too_short → Short
  unfolding says verdict_of
  by_state e = go (is_makeable r) r.finished refl refl e
    where
      go : (m f : Bool) → is_makeable r ≡ m → r.finished ≡ f
          → cond m (cond f (Err finished) (lent_verdict r.opening (length p) (length b.gathering) (length b.addresses) (length b.output))) (Err unmakeable_state) ≡ Err addresses_too_short → Short
      go false f m' f' e = absurd (other_number unmakeable_state (λ z. omega arith) e)
      go true true m' f' e = absurd (other_number finished (λ z. omega arith) e)
      go true false m' f' e = let h = by_lent (lends _ _ _ _ _) e in let q = opted_in_lem r.opening h.1 in (m', f', h.0, q.0, q.1, h.2)

  refused_then : (feed_of r p b).answer ≡ Err addresses_too_short → Short
  unfolding feed_of says
  refused_then e = go says refl e
    where
      go : (v : (Result (Unit {0}) Refusal)) → says ≡ v → (feed_by r p b v).answer ≡ Err addresses_too_short → Short
      go (Ok tt) h e = zero_one (unfold feed_by take_of fed_by in cc)
      go (Err w) h e = by_state (h ∙ (let d : w ≡ addresses_too_short = unfold feed_by in cc in ap (λ (x : Refusal). Err x) d))

  then_refused : Short → (feed_of r p b).answer ≡ Err addresses_too_short
  unfolding feed_of says
  then_refused s =
      let v : says ≡ Err addresses_too_short = unfold verdict_of longest_address_value in rw (s.0, s.1) (sym (addresses-short r.opening (length p) (length b.gathering) (length b.addresses) (length b.output) s.2 (endpoint_on r.opening s.3 s.4) s.5)) in
      ap (λ (x : (Result (Unit {0}) Refusal)). (feed_by r p b x).answer) v ∙ (unfold feed_by in refl)

pub addresses_too_short_exactly : AddressesTooShortExactly
addresses_too_short_exactly r p b = (refused_then r p b, then_refused r p b)

-- ---- what is stored of which capsule

keeps_is : (op : Opening) (t n : ℕ) → keeps op t n ≡ keeps_by (kind_of op t) n
unfolding keeps
keeps_is op t n = refl

gathers_is : (op : Opening) (t n : ℕ) → gathers op t n ≡ gathers_by (kind_of op t) op.limit n
unfolding gathers
gathers_is op t n = refl

keeps_only : (op : Opening) (t n : ℕ) (k : Kind) → kind_of op t ≡ k → keeps_by k n ≡ true → IsAddress op t × (n ≤ 1024)
unfolding keeps_by longest_address_value
keeps_only op t n Datagram h f = no_true f
keeps_only op t n Address h f = (is_address op t h, leb-true n 1024 f)
keeps_only op t n Unknown h f = no_true f

keeps_so : (op : Opening) (t n : ℕ) → IsAddress op t × (n ≤ 1024) → keeps op t n ≡ true
unfolding keeps keeps_by longest_address_value
keeps_so op t n h = rw (kind_is op t h.0, le-leb n 1024 h.1)

pub keeps_exactly : KeepsExactly
keeps_exactly op t n = (λ e. keeps_only op t n (kind_of op t) refl (sym (keeps_is op t n) ∙ e), keeps_so op t n)

-- by the tests of the kind
pub by_tests : (op : Opening) (t : ℕ) (d a : Bool) → eqb t 0 || (op.draft && eqb t 0xff37a5) ≡ d → opted op && is_address_type t ≡ a → kind_of op t ≡ cond d Datagram (cond a Address Unknown)
unfolding kind_of
by_tests op t d a e f = λ i. cond (e i) Datagram (cond (f i) Address Unknown)

-- the test of a DATAGRAM's type
pub datagram_test : (op : Opening) (t : ℕ) → (eqb t 0 || (op.draft && eqb t 0xff37a5) ≡ true) ↔ IsDatagram op t
datagram_test op t = (λ e. says (eqb t 0) refl e, holds)
  where
    says : (z : Bool) → eqb t 0 ≡ z → z || (op.draft && eqb t 0xff37a5) ≡ true → IsDatagram op t
    says true e f = inl (eqb-true t 0 e)
    says false e f = let q = parted op.draft (eqb t 0xff37a5) f in inr (q.0, eqb-true t 0xff37a5 q.1)

    holds : IsDatagram op t → eqb t 0 || (op.draft && eqb t 0xff37a5) ≡ true
    holds (inl e) = ap (λ (z : Bool). z || (op.draft && eqb t 0xff37a5)) (eq-eqb t 0 e)
    holds (inr h) = go (eqb t 0)
      where
        go : (z : Bool) → z || (op.draft && eqb t 0xff37a5) ≡ true
        go true = refl
        go false = both op.draft (eqb t 0xff37a5) h.0 (eq-eqb t 0xff37a5 h.1)

gathers_only : (op : Opening) (t n : ℕ) (d a : Bool) → eqb t 0 || (op.draft && eqb t 0xff37a5) ≡ d → opted op && is_address_type t ≡ a
    → gathers_by (kind_of op t) op.limit n ≡ true → IsDatagram op t × (n ≤ op.limit)
unfolding gathers_by
gathers_only op t n true a e f g = ((datagram_test op t).0 e, leb-true n op.limit (rw (by_tests op t true a e f) at g))
gathers_only op t n false true e f g = no_true (rw (by_tests op t false true e f) at g)
gathers_only op t n false false e f g = no_true (rw (by_tests op t false false e f) at g)

gathers_so : (op : Opening) (t n : ℕ) → IsDatagram op t × (n ≤ op.limit) → gathers op t n ≡ true
unfolding gathers gathers_by
gathers_so op t n h = rw (by_tests op t true (opted op && is_address_type t) ((datagram_test op t).1 h.0) refl, le-leb n op.limit h.1)

pub gathers_exactly : GathersExactly
gathers_exactly op t n =
    (λ e. gathers_only op t n (eqb t 0 || (op.draft && eqb t 0xff37a5)) (opted op && is_address_type t) refl refl (sym (gathers_is op t n) ∙ e), gathers_so op t n)

-- ---- opening, and other types

pub open_exactly : OpenExactly
open_exactly role limit draft addresses = record {
  refused = λ h. (unfold open_of is_opening in rw (lt-leb limit 65535 h));
  ready = λ h. (unfold open_of is_opening in rw (le-leb limit 65535 h));
}

pub others_as_before : OthersAsBefore
others_as_before op t h = go (eqb t 0 || (op.draft && eqb t 0xff37a5)) (opted op && is_address_type t) refl refl
  where
    go : (d a : Bool) → eqb t 0 || (op.draft && eqb t 0xff37a5) ≡ d → opted op && is_address_type t ≡ a → kind_of op t ≡ before.kind_of op t
    go true a e f = by_tests op t true a e f ∙ (unfold before.kind_of in λ i. cond (sym e i) Datagram Unknown)
    go false false e f = by_tests op t false false e f ∙ (unfold before.kind_of in λ i. cond (sym e i) Datagram Unknown)
    go false true e f = absurd (h (is_address op t (by_tests op t false true e f)))
