-- Bytes put one after another. Assumes nothing.
use Rattle.std.specs.Prelude.{Result, Ok, Err}
use Rattle.walks.proofs.Words.{refl, le-leb, lt-leb, leb, leb-true, leb-false, ◌≡◌, sym, ap, ◌∙◌, subst, ℕ, ◌+◌, ◌-◌, ◌*◌, ◌/◌, ◌≤◌, ◌<◌, arith, Bool, true, false, List, [], ◌∷◌, ◌++◌, length, take, drop, get_or, length-append, append_assoc, sets, sets-eq, take-take, drop-drop, length-take-le, pow_mono, ne_eqb}
use Rattle.std.proofs.lemmas.List.{length-take}
use Rattle.std.specs.Simd.{first_chunks}
use borrow.Rule.Slice.PartMut.{put_mid}
use Rattle.address_rows.proofs.Terms.{Refusal, Bytes, largest, least_size, encode, Writing, writing, write_varint, sets-append, least, length-encode, write_fits, write_large, impossible, width_of, all_of, value_bytes, Put, size_in, id_bytes, record_bytes, gather, Gathering, gathering, put_records, value_in, Gathered, little_endian, all_in, entries_in, id_fits}
use Rattle.address_rows.proofs.Rows.{width_most, count, rest, rest-next, rest_end, rest_all, chunk_at, record_alone, entry-lent, range-lent, value_put}

pub put_as : {a b x y : List ℕ} {at r : ℕ} → Put a x at y r → a ≡ b → Put b x at y r
put_as {x = x} {y = y} {at = at} {r = r} p e = subst (λ (l : List ℕ). Put l x at y r) e p

pub put_then : {a b x y z : List ℕ} {at r s : ℕ} → Put a x at y r → Put b y r z s → Put (a ++ b) x at z s
put_then {a = a} {b = b} {x = x} {at = at} {r = r} p q = record {
  stored =
      q.stored
      ∙ ap (λ (l : List ℕ). sets l r b) p.stored
      ∙ ap (λ (k : ℕ). sets (sets x at a) k b) p.next
      ∙ sets-append x at a b;
  next = omega (arith, p.next, q.next, length-append a b);
}

-- ---- numbers

pub size_most : (n : ℕ) → least_size n ≤ 8
unfolding least_size
size_most n = pow_mono (least n).most

module _ (n : ℕ) (out : List ℕ) (at : ℕ) (h : n ≤ largest) (f : at + least_size n ≤ length out) where
  pub put_number : (w : Result ℕ Refusal) (after : List ℕ) (size : ℕ) → writing w after ≡ write_varint n out at → size ≡ least_size n → Put (encode n) out at after (at + size)
  put_number w after size e z = record {
    stored = ap (λ (x : Writing). x.output) (e ∙ sym (write_fits n out at h f));
    next = omega (arith, length-encode n);
  }

module _ (n : ℕ) (out : List ℕ) (at : ℕ) (f : at + 8 ≤ length out) (after : List ℕ) where
  fits : n ≤ largest → writing (Ok (least_size n)) (sets out at (encode n)) ≡ write_varint n out at
  fits h = write_fits n out at h (omega (arith, size_most n))

  pub put_wrote : (size : ℕ) → writing (Ok size) after ≡ write_varint n out at → Put (id_bytes n) out at after (at + size) × (size ≤ 8)
  put_wrote size e = go (leb n largest) refl
    where
      go : (b : Bool) → leb n largest ≡ b → Put (id_bytes n) out at after (at + size) × (size ≤ 8)
      go true l =
          let d = e ∙ sym (fits (leb-true n largest l)) in
          let a : Ok size ≡ Ok (least_size n) = ap (λ (x : Writing). x.answer) d in
          let z : size ≡ least_size n = cc in
          let i : id_bytes n ≡ encode n = (unfold id_bytes in rw l) in
          (put_as (record { stored = ap (λ (x : Writing). x.output) d; next = omega (arith, z, length-encode n) }) (sym i), omega (arith, z, size_most n))
      go false l =
          let a = ap (λ (x : Writing). x.answer) (e ∙ sym (write_large n out at (leb-false n largest l))) in
          impossible (cc)

  pub put_refused : (why : Refusal) → writing (Err why) after ≡ write_varint n out at → Put (id_bytes n) out at after at
  put_refused why e = go (leb n largest) refl
    where
      go : (b : Bool) → leb n largest ≡ b → Put (id_bytes n) out at after at
      go true l =
          let a = ap (λ (x : Writing). x.answer) (e ∙ sym (fits (leb-true n largest l))) in
          impossible (cc)
      go false l =
          let i : id_bytes n ≡ [] = (unfold id_bytes in rw l) in
          put_as (record { stored = ap (λ (x : Writing). x.output) (e ∙ sym (write_large n out at (leb-false n largest l))); next = omega arith }) (sym i)

-- ---- a part of a record

-- a part that is copied
pub put_part : (s out : List ℕ) (at n : ℕ) → length s ≡ n → at + n ≤ length out → Put s out at (put_mid at (at + n - at) out s) (at + n)
put_part s out at n l h =
    let e : at + n - at ≡ n = omega arith in
    record {
      stored = rw (e, sets-eq s out at (omega arith), l, drop-drop n at out) (sym (append_assoc (take at out) s (drop (at + n) out)));
      next = omega arith;
    }

pub address-length : (s : List ℕ) (version : ℕ) → 16 ≤ length s → length (take (width_of version) s) ≡ width_of version
address-length s version h = length-take-le (width_of version) s (omega (arith, width_most version))

-- a version as the code tells it apart
pub width-four : (version : ℕ) → version ≡ 4 → width_of version ≡ 4
unfolding width_of
width-four version e = rw e

pub width-six : (version : ℕ) → version ≡ 6 → width_of version ≡ 16
unfolding width_of
width-six version e = rw e

pub put_address_as : (s out : List ℕ) (version at n : ℕ) → width_of version ≡ n → 16 ≤ length s → at + n ≤ length out → Put (take (width_of version) s) out at (put_mid at (at + n - at) out (take n s)) (at + n)
put_address_as s out version at n e l h = rw e (put_part (take n s) out at n (rw e at (address-length s version l)) h)

pub put_none : (s out : List ℕ) (version at : ℕ) → (version ≡ 4 → ⊥) → (version ≡ 6 → ⊥) → Put (take (width_of version) s) out at out at
unfolding width_of
put_none s out version at f g = rw (ne_eqb version 4 f, ne_eqb version 6 g) (record { stored = refl; next = omega arith })

pub address_most : (s : List ℕ) (version : ℕ) → length (take (width_of version) s) ≤ 16
address_most s version = omega (arith, width_most version, take_most (width_of version) s)
  where
    take_most : (n : ℕ) (s : List ℕ) → length (take n s) ≤ n
    take_most n s = omega (arith, length-take n s)

-- an address, of the bytes from its place on
put_alone : (s : List ℕ) (version more at : ℕ) → 16 ≤ more → {x y : List ℕ} {a b : ℕ} → Put (take (width_of (get_or s version 0)) (take more (drop at s))) x a y b → Put (take (width_of (get_or s version 0)) (drop at s)) x a y b
put_alone s version more at h p = put_as p (take-take (width_of (get_or s version 0)) more (drop at s) (omega (arith, width_most (get_or s version 0))))

-- ---- a record

pub put_entry : (s : List ℕ) {n : ℕ} {x₁ x₂ x₃ x₄ x₅ : List ℕ} {a b c d e : ℕ} → n ≡ little_endian (take 8 s)
    → Put (id_bytes n) x₁ a x₂ b
    → Put (get_or s 8 0 ∷ []) x₂ b x₃ c
    → Put (take (width_of (get_or s 8 0)) (take 22 (drop 10 s))) x₃ c x₄ d
    → Put (get_or s 9 0 ∷ []) x₄ d x₅ e
    → Put (record_bytes false s) x₁ a x₅ e
unfolding record_bytes
put_entry s z p q r t =
    put_as (put_then p (put_then q (put_then (put_alone s 8 22 10 (omega arith) r) t)))
    (ap (λ (m : ℕ). id_bytes m ++ (get_or s 8 0 ∷ (take (width_of (get_or s 8 0)) (drop 10 s) ++ (get_or s 9 0 ∷ [])))) z ∙ sym (entry-lent s))

pub put_range : (s : List ℕ) {x₁ x₂ x₃ x₄ x₅ : List ℕ} {a b c d e : ℕ} → Bytes s → 34 ≤ length s
    → Put (get_or s 0 0 ∷ []) x₁ a x₂ b
    → Put (take (width_of (get_or s 0 0)) (take 32 (drop 2 s))) x₂ b x₃ c
    → Put (take (width_of (get_or s 0 0)) (take 16 (drop 18 s))) x₃ c x₄ d
    → Put (get_or s 1 0 ∷ []) x₄ d x₅ e
    → Put (record_bytes true s) x₁ a x₅ e
unfolding record_bytes
put_range s y h p q r t = put_as (put_then p (put_then (put_alone s 0 32 2 (omega arith) q) (put_then (put_alone s 0 16 18 (omega arith) r) t))) (sym (range-lent s y h))

-- ---- all records

gather_on : (at : ℕ) (b : List ℕ) (bs : List (List ℕ)) → at ≤ 1024 → gather at (b ∷ bs) ≡ b ++ gather (at + length b) bs
unfolding gather
gather_on at b bs h = rw (le-leb at 1024 h)

gather-full : (at : ℕ) (bs : List (List ℕ)) → 1024 < at → gather at bs ≡ []
unfolding gather
gather-full at [] h = refl
gather-full at (b ∷ bs) h = rw (lt-leb at 1024 h)

module _ (routes : Bool) (row before : List ℕ) where
  abbrev parts : ℕ → List (List ℕ)
  parts i = rest (size_in routes) (record_bytes routes) row (count routes row) i

  abbrev whole : List ℕ
  whole = gather 0 (all_in (size_in routes) (record_bytes routes) row)

  pub no_room : length before < 1058 → gathering 0 before ≡ put_records routes row before
  unfolding put_records
  no_room h = rw (lt-leb 1058 (length before) h)

  -- what is put so far, with what is left, is the whole
  pub record Going (i at : ℕ) (now : List ℕ) : Type 0 where
    pub all : sets now at (gather at (parts i)) ≡ sets before 0 whole
    pub size : at + length (gather at (parts i)) ≡ length whole

  pub going_starts : Going 0 0 before
  going_starts =
      let e : parts 0 ≡ all_in (size_in routes) (record_bytes routes) row = (unfold all_in in rest_all (size_in routes) (record_bytes routes) row (count routes row)) in
      record {
        all = ap (λ (l : List (List ℕ)). sets before 0 (gather 0 l)) e;
        size = omega (arith, ap (λ (l : List (List ℕ)). length (gather 0 l)) e);
      }

  pub going_on : {i at r : ℕ} {now after : List ℕ} → i < count routes row → at ≤ 1024 → Going i at now → Put (record_bytes routes (drop (size_in routes * i) row)) now at after r → Going (i + 1) r after
  going_on {i} {at} {r} {now} {after} h k g p =
      let b = record_bytes routes (drop (size_in routes * i) row) in
      let more = parts (i + 1) in
      let e : gather at (parts i) ≡ b ++ gather (at + length b) more = ap (gather at) (rest-next (size_in routes) (record_bytes routes) row (count routes row) i h) ∙ gather_on at b more k in
      record {
        all =
            ap (λ (l : List ℕ). sets l r (gather r more)) p.stored
            ∙ ap (λ (m : ℕ). sets (sets now at b) m (gather m more)) p.next
            ∙ sets-append now at b (gather (at + length b) more)
            ∙ ap (sets now at) (sym e)
            ∙ g.all;
        size = omega (arith, g.size, p.next, ap (λ (m : ℕ). length (gather m more)) p.next, ap (λ (l : List ℕ). length l) e, length-append b (gather (at + length b) more));
      }

  going_done : {i at : ℕ} {now : List ℕ} → gather at (parts i) ≡ [] → 1058 ≤ length before → Going i at now → gathering at now ≡ put_records routes row before
  unfolding put_records
  going_done {i} {at} {now} e h g =
      let s : now ≡ sets before 0 whole = ap (sets now at) (sym e) ∙ g.all in
      let z : at ≡ length whole = omega (arith, g.size, ap (λ (l : List ℕ). length l) e) in
      rw (le-leb 1058 (length before) h, z, s)

  pub going_stops : {i at : ℕ} {now : List ℕ} → 1024 < at → 1058 ≤ length before → Going i at now → gathering at now ≡ put_records routes row before
  going_stops {i} {at} l h g = going_done (gather-full at (parts i) l) h g

  -- the same by the size and the chunks that the code has
  module _ (n : ℕ) (e : n ≡ size_in routes) (i : ℕ) where
    pub turn : (chunks : List (List ℕ)) (s : List ℕ) {at r : ℕ} {now after : List ℕ} → chunks ≡ first_chunks n (length row / n) row → s ≡ get_or chunks i s
        → i < length row / n → at ≤ 1024 → Going i at now → Put (record_bytes routes s) now at after r → Going (i + 1) r after
    turn chunks s f is_s h k g p =
        let c : s ≡ take n (drop (n * i) row) = is_s ∙ ap (λ (l : List (List ℕ)). get_or l i s) f ∙ chunk_at n (length row / n) row i s h in
        going_on (rw e at h) k g (put_as p (ap (record_bytes routes) c ∙ rw e (record_alone routes (drop (size_in routes * i) row))))

    pub turns_end : {at : ℕ} {now : List ℕ} → length row / n ≤ i → 1058 ≤ length before → Going i at now → gathering at now ≡ put_records routes row before
    unfolding gather
    turns_end {at} l h g = going_done (ap (gather at) (rest_end (size_in routes) (record_bytes routes) row (count routes row) i (rw e at l))) h g

-- ---- what this comes to, if the request IDs fit

gather-all : (at : ℕ) (bs : List (List ℕ)) → at + length (gather at bs) ≤ 1024 → gather at bs ≡ value_bytes (λ s. s) bs
unfolding gather value_bytes
gather-all at [] h = refl
gather-all at (b ∷ bs) h = go (leb at 1024) (λ k. gather-all (at + length b) bs k) refl
  where
    go : (t : Bool) → (at + length b + length (gather (at + length b) bs) ≤ 1024 → gather (at + length b) bs ≡ value_bytes (λ s. s) bs) → leb at 1024 ≡ t → gather at (b ∷ bs) ≡ b ++ value_bytes (λ s. s) bs
    go true next l =
        let e = gather_on at b bs (leb-true at 1024 l) in
        e ∙ ap (λ (x : List ℕ). b ++ x) (next (omega (arith, ap (λ (x : List ℕ). length x) e, length-append b (gather (at + length b) bs))))
    go false next l = absurd (let n : ⊥ = omega (arith, leb-false at 1024 l) in n)

gather-long : (at : ℕ) (bs : List (List ℕ)) → 1024 < at + length (gather at bs) → 1024 < at + length (value_bytes (λ s. s) bs)
unfolding gather value_bytes
gather-long at [] h = h
gather-long at (b ∷ bs) h = go (leb at 1024) (λ k. gather-long (at + length b) bs k) refl
  where
    go : (t : Bool) → (1024 < at + length b + length (gather (at + length b) bs) → 1024 < at + length b + length (value_bytes (λ s. s) bs)) → leb at 1024 ≡ t → 1024 < at + length (b ++ value_bytes (λ s. s) bs)
    go true next l =
        let e = gather_on at b bs (leb-true at 1024 l) in
        let m = next (omega (arith, ap (λ (x : List ℕ). length x) e, length-append b (gather (at + length b) bs))) in
        omega (arith, m, length-append b (value_bytes (λ s. s) bs))
    go false next l = omega (arith, leb-false at 1024 l)

pub gathers : (routes : Bool) (row before : List ℕ) → (routes ≡ false → all_of id_fits (entries_in row) ≡ true) → 1058 ≤ length before
    → {r : ℕ} {after : List ℕ} → gathering r after ≡ put_records routes row before → Gathered (value_in routes row) before after r
gathers routes row before f h {r} {after} e =
    let bs = all_in (size_in routes) (record_bytes routes) row in
    let v = value_put routes row f in
    let d : gathering r after ≡ gathering (length (gather 0 bs)) (sets before 0 (gather 0 bs)) = e ∙ (unfold put_records in rw (le-leb 1058 (length before) h)) in
    let n : r ≡ length (gather 0 bs) = ap (λ (x : Gathering). x.count) d in
    let s : after ≡ sets before 0 (gather 0 bs) = ap (λ (x : Gathering). x.buffer) d in
    record {
      whole = λ l. put_as (record { stored = s; next = omega (arith, n) }) (gather-all 0 bs (omega (arith, n)) ∙ v);
      long = λ l. omega (arith, gather-long 0 bs (omega (arith, n)), ap (λ (x : List ℕ). length x) v);
    }
