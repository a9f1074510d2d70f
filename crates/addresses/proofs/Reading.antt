-- Entries and ranges at a place of a value. Assumes nothing.
use Rattle.short_forms.specs.Short.{varint_of}
use Rattle.walks.proofs.Words.{◌≡◌, refl, sym, ap, ◌∙◌, cond, ◌&&◌, and-true, ℕ, suc, ◌+◌, ◌-◌, ◌≤◌, ◌<◌, add-one, arith, List, [], ◌∷◌, ◌++◌, append_assoc, length, get_or, take, drop, length-drop, length-append, take-append-drop, drop-cons, drop-drop, drop_of_length-le, get_or-drop, take_all, take-add, split_at, append_snoc, length-take-le, ltb, lt-ltb, le-ltb, false≢true}
use Rattle.addresses.proofs.Terms.{Varint, Bytes, num, bytes_take, bytes_drop, read_varint, reads, split, Malformed, Step, done, malformed, next, width_of, Entry, address_at, identified, entry_at, Range, range_at, entry_lent, placed, Inside, EntryRead, range_in, range_placed, RangeRead}
use Rattle.std.specs.Prelude.{Result, Ok, Err, Option, Some, None}
use Rattle.std.specs.Result.{IsErr}
use Rattle.addresses.specs.declared.Entry as lent
use Rattle.addresses.proofs.Lists.{impossible, Shrinks}

-- the rest of a value, as the code lends it
pub rest_of : (v : List ℕ) (at : ℕ) → take (length v - at) (drop at v) ≡ drop at v
rest_of v at = take_all (length v - at) (drop at v) (omega (arith, length-drop at v))

-- ---- the test that entries and ranges have alike: a version, and enough bytes

module _ {A : Type 0} (w k n : ℕ) (e : A) (rest : List ℕ) where
  abbrev tested : Step A
  tested = cond (ltb 0 w && ltb k n) (next e rest) malformed

  pub long_enough : k < n → tested ≡ cond (ltb 0 w) (next e rest) malformed
  long_enough l = rw (lt-ltb k n l, and-true (ltb 0 w))

  passes : 0 < w → k < n → tested ≡ next e rest
  passes p l = long_enough l ∙ rw (lt-ltb 0 w p)

  fails : (0 < w → k < n → ⊥) → tested ≡ malformed
  fails f = split w 0 (λ z. rw (le-ltb 0 w z)) (λ p. split n k (λ l. rw (lt-ltb 0 w p, le-ltb k n l)) (λ l. absurd (f p l)))

  passed : {s : Step A} → (s ≡ malformed → ⊥) → tested ≡ s → (0 < w) × (k < n) × (next e rest ≡ s)
  passed f h =
      split w 0
      (λ z. absurd (f (sym h ∙ fails (λ p l. omega arith))))
      (λ p. split n k (λ l. absurd (f (sym h ∙ fails (λ q m. omega arith)))) (λ l. (p, l, sym (passes p l) ∙ h)))

  not_end {ℓ} : {X : Type ℓ} → tested ≡ done → X
  not_end h = let q : next e rest ≡ done = (passed (λ p. impossible (cc)) h).2 in impossible (cc)

not_malformed : {A : Type 0} {e : A} {rest : List ℕ} → next e rest ≡ malformed → ⊥
not_malformed p = impossible (cc)

-- ---- entries

-- behind the request ID
record AddressFront (id : ℕ) (v rest : List ℕ) (e : Entry) : Type 0 where
  is_id : e.id ≡ id
  some : 0 < width_of e.version
  width : length e.address ≡ width_of e.version
  joins : v ≡ (e.version ∷ (e.address ++ (e.prefix ∷ []))) ++ rest

address_front : (id : ℕ) (v rest : List ℕ) (e : Entry) → address_at id v ≡ next e rest → AddressFront id v rest e
unfolding address_at
address_front id [] rest e p = impossible (cc)
address_front id (b ∷ v) rest e p =
    let w = width_of b in
    let t = passed w w (length v) (record { id = id; version = b; address = take w v; prefix = get_or v w 0 }) (drop (w + 1) v) not_malformed p in
    let q = t.2 in
    let is_e : ◌≡◌ {A = Entry} (record { id = id; version = b; address = take w v; prefix = get_or v w 0 }) e = cc in
    let is_r : drop (w + 1) v ≡ rest = cc in
    rw (← is_e, ← is_r, add-one w)
    (record {
      is_id = refl;
      some = t.0;
      width = length-take-le w v (omega (arith, t.1));
      joins = ap (λ (s : List ℕ). b ∷ s) (split_at v w 0 t.1 ∙ sym (append_snoc (take w v) (get_or v w 0) (drop (suc w) v)));
    })

pub record EntryFront (v rest : List ℕ) (e : Entry) : Type 0 where
  pub size : ℕ
  pub reads : read_varint v ≡ Some (varint_of e.id size)
  pub some : 0 < width_of e.version
  pub width : length e.address ≡ width_of e.version
  pub joins : v ≡ take size v ++ (e.version ∷ (e.address ++ (e.prefix ∷ []))) ++ rest

pub entry_front : (v rest : List ℕ) (e : Entry) → entry_at v ≡ next e rest → EntryFront v rest e
unfolding entry_at identified
entry_front [] rest e p = impossible (cc)
entry_front (b ∷ v) rest e p = go (read_varint (b ∷ v)) refl p
  where
    go : (r : Option Varint) → read_varint (b ∷ v) ≡ r → identified (b ∷ v) r ≡ next e rest → EntryFront (b ∷ v) rest e
    go None d q = impossible (cc)
    go (Some read) d q =
        let f = address_front read.value (drop read.size (b ∷ v)) rest e q in
        record {
          size = read.size;
          reads = rw f.is_id d;
          some = f.some;
          width = f.width;
          joins = sym (take-append-drop read.size (b ∷ v)) ∙ ap (λ (s : List ℕ). take read.size (b ∷ v) ++ s) f.joins ∙ sym (append_assoc (take read.size (b ∷ v)) _ rest);
        }

pub entry_shrinks : Shrinks entry_at
entry_shrinks v rest e p =
    let f = entry_front v rest e p in
    omega (arith, simp length-append at (ap length f.joins))

address_not_end {ℓ} : {X : Type ℓ} (id : ℕ) (v : List ℕ) → address_at id v ≡ done → X
unfolding address_at
address_not_end id [] p = impossible (cc)
address_not_end id (b ∷ v) p = not_end (width_of b) (width_of b) (length v) _ _ p

pub entry_not_end {ℓ} : {X : Type ℓ} (v : List ℕ) → 0 < length v → entry_at v ≡ done → X
unfolding entry_at identified
entry_not_end [] h p = absurd (let z : ⊥ = omega arith in z)
entry_not_end {X} (b ∷ v) h p = go (read_varint (b ∷ v)) p
  where
    go : (r : Option Varint) → identified (b ∷ v) r ≡ done → X
    go None q = impossible (cc)
    go (Some read) q = address_not_end read.value (drop read.size (b ∷ v)) q

module _ (v : List ℕ) (id at : ℕ) where
  abbrev width : ℕ
  width = width_of (get_or v at 0)

  abbrev entry_here : Entry
  entry_here = record { id = id; version = get_or v at 0; address = take width (drop (at + 1) v); prefix = get_or v (at + 1 + width) 0 }

  address_cons : at < length v → address_at id (drop at v) ≡ tested width width (length v - (at + 1)) entry_here (drop (at + 1 + width + 1) v)
  unfolding address_at
  address_cons h =
      let n : suc at + (width + 1) ≡ at + 1 + width + 1 = omega arith in
      rw (drop-cons v at 0 h, length-drop (suc at) v, get_or-drop (suc at) v width 0, drop-drop (width + 1) (suc at) v, n, add-one at)

  pub address_none : (m : Malformed) → length v ≤ at → EntryRead (address_at id (drop at v)) v at (Err m)
  unfolding address_at placed
  address_none m h = record { reads = rw (drop_of_length-le v h); inside = tt }

  pub address-short : (m : Malformed) → at < length v → (0 < width → width < length v - (at + 1) → ⊥) → EntryRead (address_at id (drop at v)) v at (Err m)
  unfolding placed
  address-short m h f = record { reads = sym (address_cons h ∙ fails width width _ _ _ f); inside = tt }

  pub address-whole : (e : lent.Entry) → entry_lent e ≡ entry_here → e.next ≡ at + 1 + width + 1
      → at < length v → 0 < width → width < length v - (at + 1) → width ≤ 16 → EntryRead (address_at id (drop at v)) v at (Ok (Some e))
  unfolding placed entry_lent
  address-whole e i n h p q l =
      let a : length e.address.now ≡ width = ap (λ (x : Entry). length x.address) i ∙ length-take-le width (drop (at + 1) v) (omega (arith, length-drop (at + 1) v)) in
      let w : e.version ≡ get_or v at 0 = ap (λ (x : Entry). x.version) i in
      record {
        reads = ap (λ (x : Entry). next x (drop e.next v)) i ∙ rw n (sym (address_cons h ∙ passes width width _ _ _ p q));
        inside = (omega arith, omega arith, rw w a, omega arith);
      }

-- what is refused is so for `?` too
pub refused : {s : Step Entry} {v : List ℕ} {at : ℕ} {m : Malformed} (r : Result (Option lent.Entry) Malformed) → IsErr r → EntryRead s v at (Err m) → EntryRead s v at r
unfolding placed
refused (Ok x) h e = absurd (false≢true h)
refused (Err n) h e = record { reads = e.reads; inside = tt }

entry_some : (s : List ℕ) → 0 < length s → entry_at s ≡ identified s (read_varint s)
entry_some [] h = absurd (let z : ⊥ = omega arith in z)
entry_some (b ∷ s) h = unfold entry_at in refl

pub entry_whole : (s : List ℕ) (id k : ℕ) → 0 < length s → read_varint s ≡ Some (varint_of id k) → entry_at s ≡ address_at id (drop k s)
unfolding identified
entry_whole s id k h e = entry_some s h ∙ rw e

module _ (v : List ℕ) (at : ℕ) where
  pub entry-end : length v ≤ at → EntryRead (entry_at (drop at v)) v at (Ok None)
  unfolding entry_at placed
  entry-end h = record { reads = rw (drop_of_length-le v h); inside = tt }

  pub entry_cut : (m : Malformed) → at < length v → read_varint (drop at v) ≡ None → EntryRead (entry_at (drop at v)) v at (Err m)
  unfolding placed identified
  entry_cut m h e = record { reads = sym (entry_some (drop at v) (omega (arith, length-drop at v)) ∙ rw e); inside = tt }

  pub id_within : (id k : ℕ) → read_varint (drop at v) ≡ Some (varint_of id k) → k + at ≤ length v
  id_within id k e = let r = reads (drop at v) id k e in omega (arith, r.fits, r.some, length-drop at v)

  pub entry_goes_on : (id k : ℕ) (r : Result (Option lent.Entry) Malformed) → at < length v → read_varint (drop at v) ≡ Some (varint_of id k) → EntryRead (address_at id (drop (at + k) v)) v (at + k) r → EntryRead (entry_at (drop at v)) v at r
  entry_goes_on id k r h e a =
      record {
        reads = a.reads ∙ rw (← (drop-drop k at v)) (sym (entry_whole (drop at v) id k (omega (arith, length-drop at v)) e));
        inside = nearer r a.inside;
      }
    where
      nearer : (r : Result (Option lent.Entry) Malformed) → Inside v (at + k) r → Inside v at r
      nearer (Ok None) i = tt
      nearer (Err m) i = tt
      nearer (Ok (Some e)) i = (omega (arith, i.0), i.1, i.2, i.3)

-- ---- ranges

pub regroup : (x y : List ℕ) (p : ℕ) (rest : List ℕ) → x ++ y ++ (p ∷ rest) ≡ x ++ (y ++ (p ∷ [])) ++ rest
regroup x y p rest = simp append_assoc

pub record RangeFront (v rest : List ℕ) (r : Range) : Type 0 where
  pub start : List ℕ
  pub end : List ℕ
  pub some : 0 < width_of r.version
  pub is_start : r.start ≡ num start
  pub is_end : r.end ≡ num end
  pub start_width : length start ≡ width_of r.version
  pub end_width : length end ≡ width_of r.version
  pub bytes : Bytes v → Bytes start × Bytes end
  pub joins : v ≡ (r.version ∷ (start ++ (end ++ (r.protocol ∷ [])))) ++ rest

pub range_front : (v rest : List ℕ) (r : Range) → range_at v ≡ next r rest → RangeFront v rest r
unfolding range_at
range_front [] rest r p = impossible (cc)
range_front (b ∷ v) rest r p =
    let w = width_of b in
    let t = passed w (w + w) (length v) (record { version = b; start = num (take w v); end = num (take w (drop w v)); protocol = get_or v (w + w) 0 }) (drop (w + w + 1) v) not_malformed p in
    let q = t.2 in
    let l = t.1 in
    let is_r : ◌≡◌ {A = Range} (record { version = b; start = num (take w v); end = num (take w (drop w v)); protocol = get_or v (w + w) 0 }) r = cc in
    let is_rest : drop (w + w + 1) v ≡ rest = cc in
    rw (← is_r, ← is_rest)
    (record {
      start = take w v;
      end = take w (drop w v);
      some = t.0;
      is_start = refl;
      is_end = refl;
      start_width = length-take-le w v (omega arith);
      end_width = length-take-le w (drop w v) (omega (arith, length-drop w v));
      bytes = λ h. (bytes_take w v h.1, bytes_take w (drop w v) (bytes_drop w v h.1));
      joins = ap (λ (s : List ℕ). b ∷ s) (split_at v (w + w) 0 l ∙ rw (take-add w w v, add-one (w + w)) (regroup (take w v) (take w (drop w v)) (get_or v (w + w) 0) (drop (suc (w + w)) v)));
    })

pub range_shrinks : Shrinks range_at
range_shrinks v rest r p =
    let f = range_front v rest r p in
    omega (arith, simp length-append at (ap length f.joins))

pub range_not_end {ℓ} : {X : Type ℓ} (b : ℕ) (v : List ℕ) → range_at (b ∷ v) ≡ done → X
unfolding range_at
range_not_end b v p = not_end (width_of b) (width_of b + width_of b) (length v) _ _ p

module _ (v : List ℕ) (at : ℕ) where
  abbrev width₂ : ℕ
  width₂ = width_of (get_or v at 0)

  range_cons : at < length v → range_at (drop at v) ≡ tested width₂ (width₂ + width₂) (length v - (at + 1)) (range_in v at width₂) (drop (at + (width₂ + width₂ + 2)) v)
  unfolding range_at range_in
  range_cons h =
      let w : ℕ = width₂ in
      let n : suc at + (w + w + 1) ≡ at + (w + w + 2) = omega arith in
      let m : suc at + (w + w) ≡ at + 1 + w + w = omega arith in
      rw (drop-cons v at 0 h, length-drop (suc at) v, get_or-drop (suc at) v (w + w) 0, drop-drop (w + w + 1) (suc at) v, drop-drop w (suc at) v, n, m, add-one at)

  pub range-end : length v ≤ at → RangeRead v at (Ok None)
  unfolding range_at range_placed
  range-end h = record { reads = rw (drop_of_length-le v h); inside = tt }

  pub range-short : (m : Malformed) → at < length v → (0 < width₂ → width₂ + width₂ < length v - (at + 1) → ⊥) → RangeRead v at (Err m)
  unfolding range_placed
  range-short m h f = record { reads = sym (range_cons h ∙ fails width₂ (width₂ + width₂) _ _ _ f); inside = tt }

  pub range-whole : at < length v → 0 < width₂ → width₂ + width₂ < length v - (at + 1) → width₂ ≤ 16 → RangeRead v at (Ok (Some width₂))
  unfolding range_placed
  range-whole h p e l = record { reads = sym (range_cons h ∙ passes width₂ (width₂ + width₂) _ _ _ p e); inside = (omega arith, refl, l) }
