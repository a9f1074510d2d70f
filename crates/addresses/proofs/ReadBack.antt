-- The bytes of entries are read as those entries. Assumes nothing.
use Rattle.std.specs.Prelude.{Some}
use Rattle.short_forms.specs.Short.{varint_of}
use Rattle.walks.proofs.Words.{◌≡◌, refl, sym, ap, ◌∙◌, Bool, true, false, cond, ◌&&◌, None, ℕ, ◌+◌, ◌/◌, ◌^◌, ◌<◌, arith, List, [], ◌∷◌, ◌++◌, append_assoc, length, take, drop, length-append, append_snoc, take_at, drop_at, get_or_at, drop-drop, pow-lt, ltb, lt-ltb}
use Rattle.addresses.proofs.Terms.{bytes_of, size_of, read_varint, encode_as, length-bytes_of, num-bytes_of, split, no_whole_nil, read_whole, read-less, whole_incomplete, whole_same, every_form_read, Step, done, malformed, next, ahead, entries, all_of, width_of, Entry, address_at, entry_at, Range, range_at, range_bytes, value_bytes, SizedEntry, sized_for, sized_at, sized_bytes, Each, IsEntry, IsRange, ReadsBack, EveryValueRead}
use Rattle.addresses.proofs.{Lists.Shrinks, Lists.entries-end, Lists.entries_malformed, Lists.entries_next, Reading.long_enough, Reading.entry_whole, Reading.range_shrinks, Reading.regroup, Encoding.sized_shrinks}

-- entries of which reading finds each that is known at the front of a value, and calls the others malformed
module _ {A : Type 0} (read : List ℕ → Step A) (bytes : A → List ℕ) (known : A → Bool) (Is : A → Type 0)
    (shrinks : Shrinks read)
    (ends : read [] ≡ done)
    (front : (e : A) (rest : List ℕ) → Is e → read (bytes e ++ rest) ≡ cond (known e) (next e rest) malformed) where
  pub value_read : (es : List A) → Each Is es → entries read (value_bytes bytes es) ≡ cond (all_of known es) (Some es) None
  unfolding value_bytes all_of
  value_read [] h = entries-end read shrinks [] ends
  value_read (e ∷ es) h = go (known e) refl (all_of known es) (value_read es h.1)
    where
      go : (t : Bool) → known e ≡ t → (u : Bool) → entries read (value_bytes bytes es) ≡ cond u (Some es) None → entries read (bytes e ++ value_bytes bytes es) ≡ cond (t && u) (Some (e ∷ es)) None
      go false d u q = entries_malformed read shrinks _ (front e (value_bytes bytes es) h.0 ∙ rw d)
      go true d true q = entries_next read shrinks _ _ e (front e (value_bytes bytes es) h.0 ∙ rw d) ∙ ap (ahead e) q ∙ (unfold ahead in refl)
      go true d false q = entries_next read shrinks _ _ e (front e (value_bytes bytes es) h.0 ∙ rw d) ∙ ap (ahead e) q ∙ (unfold ahead in refl)

  module _ (knows : (e : A) → Is e → known e ≡ true) where
    all_known : (es : List A) → Each Is es → all_of known es ≡ true
    unfolding all_of
    all_known [] h = refl
    all_known (e ∷ es) h = rw (knows e h.0) (all_known es h.1)

    reads_back : ReadsBack read bytes Is
    reads_back es h = value_read es h ∙ rw (all_known es h)

abbrev pub known : ℕ → Bool
known version = ltb 0 (width_of version)

-- ---- ASSIGN and REQUEST

module _ (e : Entry) (rest : List ℕ) (l : length e.address ≡ width_of e.version) where
  abbrev tail : List ℕ
  tail = (e.version ∷ (e.address ++ (e.prefix ∷ []))) ++ rest

  address_read : address_at e.id tail ≡ cond (known e.version) (next e rest) malformed
  unfolding address_at
  address_read =
      let w : ℕ = width_of e.version in
      let a : List ℕ = e.address in
      let k : w < length (a ++ (e.prefix ∷ rest)) = omega (arith, length-append a (e.prefix ∷ rest)) in
      let d : drop (w + 1) (a ++ (e.prefix ∷ rest)) ≡ rest = rw (← (drop-drop 1 w (a ++ (e.prefix ∷ rest))), drop_at a (e.prefix ∷ rest) w l) in
      rw (append_snoc a e.prefix rest, take_at a (e.prefix ∷ rest) w l, get_or_at a e.prefix rest 0 w l, d) (long_enough w w (length (a ++ (e.prefix ∷ rest))) e rest k)

  -- behind an ID of k bytes
  pub entry_read : (v : List ℕ) (k : ℕ) → read_varint v ≡ Some (varint_of e.id k) → drop k v ≡ tail → entry_at v ≡ cond (known e.version) (next e rest) malformed
  entry_read [] k r d = no_whole_nil r
  entry_read (b ∷ v) k r d = entry_whole (b ∷ v) e.id k (omega arith) r ∙ ap (address_at e.id) d ∙ address_read

pow_same : (i j : ℕ) → 2 ^ i ≡ 2 ^ j → i ≡ j
pow_same i j e = split i j (λ h. split j i (λ k. omega arith) (λ k. absurd (let z : ⊥ = omega (arith, pow-lt k) in z))) (λ h. absurd (let z : ⊥ = omega (arith, pow-lt h) in z))

first_byte : (b : ℕ) (v : List ℕ) (n w : ℕ) → read_varint (b ∷ v) ≡ Some (varint_of n (2 ^ w)) → b / 64 ≡ w
unfolding size_of
first_byte b v n w e = split (size_of b) (length (b ∷ v)) (λ l. pow_same (b / 64) w (whole_same (sym (read_whole b v l) ∙ e)).1) (λ l. whole_incomplete e (read-less b v l))

sized_read : (f : SizedEntry) (rest : List ℕ) → IsEntry f → sized_at (sized_bytes f ++ rest) ≡ cond (known f.entry.version) (next f rest) malformed
unfolding sized_bytes sized_at sized_for
sized_read f rest h =
    let x : List ℕ = encode_as f.width f.entry.id in
    rw (append_assoc x _ rest)
    (go (x ++ tail f.entry rest h.3) (every_form_read f.width f.entry.id h.0 h.1 _) (drop_at x _ (2 ^ f.width) (unfold encode_as in length-bytes_of (2 ^ f.width) _)))
  where
    go : (v : List ℕ) → read_varint v ≡ Some (varint_of f.entry.id (2 ^ f.width)) → drop (2 ^ f.width) v ≡ tail f.entry rest h.3 → sized_at v ≡ cond (known f.entry.version) (next f rest) malformed
    go [] e d = no_whole_nil e
    go (b ∷ v) e d = rw (entry_read f.entry rest h.3 (b ∷ v) (2 ^ f.width) e d, first_byte b v f.entry.id f.width e) (either (known f.entry.version))
      where
        either : (t : Bool) → sized_for f.width (cond t (next f.entry rest) malformed) ≡ cond t (next f rest) malformed
        either true = refl
        either false = refl

-- ---- ranges

pub range-read : (r : Range) (rest : List ℕ) → r.start < 256 ^ width_of r.version → r.end < 256 ^ width_of r.version → range_at (range_bytes r ++ rest) ≡ cond (known r.version) (next r rest) malformed
unfolding range_at range_bytes
range-read r rest hs he =
    let w : ℕ = width_of r.version in
    let x : List ℕ = bytes_of w r.start in
    let y : List ℕ = bytes_of w r.end in
    let t : List ℕ = x ++ y ++ (r.protocol ∷ rest) in
    let lx : length x ≡ w = length-bytes_of w r.start in
    let ly : length y ≡ w = length-bytes_of w r.end in
    let lxy : length (x ++ y) ≡ w + w = omega (arith, length-append x y) in
    let k : w + w < length t = omega (arith, length-append (x ++ y) (r.protocol ∷ rest)) in
    let first : take w t ≡ x = rw (append_assoc x y (r.protocol ∷ rest)) (take_at x (y ++ (r.protocol ∷ rest)) w lx) in
    let second : take w (drop w t) ≡ y = rw (append_assoc x y (r.protocol ∷ rest), drop_at x (y ++ (r.protocol ∷ rest)) w lx) (take_at y (r.protocol ∷ rest) w ly) in
    let d : drop (w + w + 1) t ≡ rest = rw (← (drop-drop 1 (w + w) t), drop_at (x ++ y) (r.protocol ∷ rest) (w + w) lxy) in
    rw (← (regroup x y r.protocol rest), first, second, num-bytes_of w r.start hs, num-bytes_of w r.end he, get_or_at (x ++ y) r.protocol rest 0 (w + w) lxy, d)
    (long_enough w (w + w) (length t) r rest k)

pub every-value-read : EveryValueRead
every-value-read = (
  reads_back sized_at sized_bytes (λ f. known f.entry.version) IsEntry sized_shrinks (unfold sized_at in refl) sized_read (λ f h. lt-ltb 0 _ h.2),
  reads_back range_at range_bytes (λ r. known r.version) IsRange range_shrinks (unfold range_at in refl) (λ r rest h. range-read r rest h.1 h.2) (λ r h. lt-ltb 0 _ h.0),
)
