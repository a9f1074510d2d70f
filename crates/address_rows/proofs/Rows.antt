-- Records of a row, and numbers in them. Assumes nothing.
use Rattle.walks.proofs.Words.{◌≡◌, refl, sym, ap, ◌∙◌, ℕ, zero, suc, ◌+◌, ◌-◌, ◌*◌, ◌/◌, ◌≤◌, ◌<◌, arith, Bool, true, false, cond, ◌&&◌, List, [], ◌∷◌, ◌++◌, length, take, drop, get_or, get_or-take, take-take, length-drop, drop-drop, length-take-le, leb, eqb, le-leb, lt-leb, leb-true}
use Rattle.std.proofs.lemmas.List.{drop-take}
use Rattle.std.specs.Int.{from_le_bytes, w64}
use Rattle.std.specs.Simd.{first_chunks}
use Rattle.address_rows.proofs.Terms.{Bytes, num, bytes_of, largest, bytes_of-num, bytes_take, bytes_drop, width_of, all_of, Entry, entry_bytes, range_bytes, value_bytes, both, entry_put, id_bytes, little_endian, entry_of, range_of, first_of, all_in, entries_in, ranges_in, id_fits, size_in, record_bytes, value_in}

-- ---- numbers

-- the first eight bytes, as the library reads them
pub little_eight : (s : List ℕ) → length s ≡ 8 → from_le_bytes w64 s ≡ little_endian s
unfolding little_endian
little_eight [] h = absurd (omega arith)
little_eight (a ∷ []) h = absurd (omega arith)
little_eight (a ∷ (b ∷ [])) h = absurd (omega arith)
little_eight (a ∷ (b ∷ (c ∷ []))) h = absurd (omega arith)
little_eight (a ∷ (b ∷ (c ∷ (d ∷ [])))) h = absurd (omega arith)
little_eight (a ∷ (b ∷ (c ∷ (d ∷ (e ∷ []))))) h = absurd (omega arith)
little_eight (a ∷ (b ∷ (c ∷ (d ∷ (e ∷ (f ∷ [])))))) h = absurd (omega arith)
little_eight (a ∷ (b ∷ (c ∷ (d ∷ (e ∷ (f ∷ (g ∷ []))))))) h = absurd (omega arith)
little_eight (a ∷ (b ∷ (c ∷ (d ∷ (e ∷ (f ∷ (g ∷ (i ∷ [])))))))) h = omega arith
little_eight (a ∷ (b ∷ (c ∷ (d ∷ (e ∷ (f ∷ (g ∷ (i ∷ (j ∷ s))))))))) h = absurd (omega arith)

-- ---- records

module _ {A : Type 0} (size : ℕ) (entry : List ℕ → A) (row : List ℕ) (count : ℕ) where
  abbrev pub rest : ℕ → List A
  rest i = first_of size entry (count - i) (drop (size * i) row)

  pub rest-next : (i : ℕ) → i < count → rest i ≡ entry (drop (size * i) row) ∷ rest (i + 1)
  unfolding first_of
  rest-next i h =
      let e : count - i ≡ suc (count - (i + 1)) = omega arith in
      let m : size * (i + 1) ≡ size * i + size = omega arith in
      rw (e, m, ← (drop-drop size (size * i) row))

  pub rest_end : (i : ℕ) → count ≤ i → rest i ≡ []
  unfolding first_of
  rest_end i h = let e : count - i ≡ 0 = omega arith in rw e

  pub rest_all : rest 0 ≡ first_of size entry count row
  rest_all =
      let e : count - 0 ≡ count = omega arith in
      let m : size * 0 ≡ 0 = omega arith in
      rw (e, m)

-- a chunk of a row is what stands there, as far as a record reaches
pub chunk_at : (size k : ℕ) (row : List ℕ) (i : ℕ) (d : List ℕ) → i < k → get_or (first_chunks size k row) i d ≡ take size (drop (size * i) row)
chunk_at size zero row i d h = absurd (omega arith)
chunk_at size (suc k) row zero d h = let e : size * 0 ≡ 0 = omega arith in rw e
chunk_at size (suc k) row (suc i) d h =
    let e : size * suc i ≡ size + size * i = omega arith in
    chunk_at size k (drop size row) i d (omega arith) ∙ rw (e, drop-drop (size * i) size row)

-- what is put of an entry, as it is lent
pub entry-lent : (s : List ℕ)
    → entry_put (entry_of s) ≡ id_bytes (little_endian (take 8 s)) ++ (get_or s 8 0 ∷ (take (width_of (get_or s 8 0)) (drop 10 s) ++ (get_or s 9 0 ∷ [])))
unfolding entry_put entry_of
entry-lent s = refl

pub width_most : (version : ℕ) → width_of version ≤ 16
unfolding width_of
width_most version = go (eqb version 4) (eqb version 6)
  where
    go : (a b : Bool) → cond a 4 (cond b 16 0) ≤ 16
    go true b = omega arith
    go false true = omega arith
    go false false = omega arith

again : (s : List ℕ) (w at : ℕ) → Bytes s → at + w ≤ length s → bytes_of w (num (take w (drop at s))) ≡ take w (drop at s)
again s w at b h =
    let l : length (take w (drop at s)) ≡ w = length-take-le w (drop at s) (omega (arith, length-drop at s)) in
    rw l at (bytes_of-num (take w (drop at s)) (bytes_take w (drop at s) (bytes_drop at s b)))

-- and of a range, whose addresses are the bytes that they were
pub range-lent : (s : List ℕ) → Bytes s → 34 ≤ length s
    → range_bytes (range_of s)
    ≡ get_or s 0 0 ∷ (take (width_of (get_or s 0 0)) (drop 2 s) ++ (take (width_of (get_or s 0 0)) (drop 18 s) ++ (get_or s 1 0 ∷ [])))
unfolding range_bytes range_of
range-lent s b h =
    let w : ℕ = width_of (get_or s 0 0) in
    let m : w ≤ 16 = width_most (get_or s 0 0) in
    rw (again s w 2 b (omega arith), again s w 18 b (omega arith))

part : (w at more : ℕ) (s : List ℕ) → w ≤ more → take w (drop at (take (at + more) s)) ≡ take w (drop at s)
part w at more s h = ap (take w) (drop-take at more s) ∙ take-take w more (drop at s) h

range_alone : (s : List ℕ) → range_of (take 34 s) ≡ range_of s
unfolding range_of
range_alone s =
    let m : width_of (get_or s 0 0) ≤ 16 = width_most (get_or s 0 0) in
    rw (get_or-take 34 s 0 0 (omega arith), get_or-take 34 s 1 0 (omega arith), part (width_of (get_or s 0 0)) 2 32 s (omega arith), part (width_of (get_or s 0 0)) 18 16 s m)

entry_alone : (s : List ℕ) → entry_of (take 32 s) ≡ entry_of s
unfolding entry_of
entry_alone s =
    let m : width_of (get_or s 8 0) ≤ 16 = width_most (get_or s 8 0) in
    rw (get_or-take 32 s 8 0 (omega arith), get_or-take 32 s 9 0 (omega arith), take-take 8 32 s (omega arith), part (width_of (get_or s 8 0)) 10 22 s (omega arith))

-- nothing but the record is looked at
pub record_alone : (routes : Bool) (s : List ℕ) → record_bytes routes (take (size_in routes) s) ≡ record_bytes routes s
unfolding record_bytes size_in
record_alone true s = ap range_bytes (range_alone s)
record_alone false s = ap entry_put (entry_alone s)

-- ---- of addresses and of ranges alike

value_of : {A : Type 0} (size : ℕ) (entry : List ℕ → A) (bytes : A → List ℕ) (k : ℕ) (row : List ℕ)
    → value_bytes (λ s. s) (first_of size (λ s. bytes (entry s)) k row) ≡ value_bytes bytes (first_of size entry k row)
unfolding value_bytes first_of
value_of size entry bytes zero row = refl
value_of size entry bytes (suc k) row = ap (λ (l : List ℕ). bytes (entry row) ++ l) (value_of size entry bytes k (drop size row))

entries_put : (es : List Entry) → all_of id_fits es ≡ true → value_bytes entry_put es ≡ value_bytes entry_bytes es
unfolding value_bytes all_of id_fits entry_put id_bytes entry_bytes
entries_put [] h = refl
entries_put (e ∷ es) h = let b = both (leb e.id largest) (all_of id_fits es) h in rw (b.0, entries_put es b.1)

-- the records' bytes are the value's, if the request IDs fit
pub value_put : (routes : Bool) (row : List ℕ) → (routes ≡ false → all_of id_fits (entries_in row) ≡ true)
    → value_bytes (λ s. s) (all_in (size_in routes) (record_bytes routes) row) ≡ value_in routes row
unfolding value_in record_bytes size_in ranges_in entries_in all_in
value_put true row h = value_of 34 range_of range_bytes (length row / 34) row
value_put false row h = value_of 32 entry_of entry_put (length row / 32) row ∙ entries_put (first_of 32 entry_of (length row / 32) row) (h refl)

pub size_some : (routes : Bool) (n : ℕ) → n ≡ size_in routes → (0 < n) × (n ≤ 34)
unfolding size_in
size_some true n e = (omega arith, omega arith)
size_some false n e = (omega arith, omega arith)

abbrev pub count : Bool → List ℕ → ℕ
count routes row = length row / size_in routes

-- ---- request IDs

module _ (row : List ℕ) where
  abbrev pub ids : ℕ → List Entry
  ids i = rest 32 entry_of row (length row / 32) i

  pub ids_all : all_of id_fits (ids 0) ≡ all_of id_fits (entries_in row)
  unfolding entries_in all_in
  ids_all = ap (all_of id_fits) (rest_all 32 entry_of row (length row / 32))

  pub ids-end : (i : ℕ) → length row / 32 ≤ i → all_of id_fits (ids i) ≡ true
  unfolding all_of
  ids-end i h = ap (all_of id_fits) (rest_end 32 entry_of row (length row / 32) i h)

  abbrev pub id_at : ℕ → ℕ
  id_at i = little_endian (take 8 (drop (32 * i) row))

  pub id_of_chunk : (chunks : List (List ℕ)) (i : ℕ) (d : List ℕ) → chunks ≡ first_chunks 32 (length row / 32) row → i < length row / 32 → little_endian (take 8 (get_or chunks i d)) ≡ id_at i
  id_of_chunk chunks i d e h = rw (e, chunk_at 32 (length row / 32) row i d h, take-take 8 32 (drop (32 * i) row) (omega arith))

  ids_next : (i : ℕ) → i < length row / 32 → all_of id_fits (ids i) ≡ leb (id_at i) largest && all_of id_fits (ids (i + 1))
  unfolding all_of id_fits entry_of
  ids_next i h = ap (all_of id_fits) (rest-next 32 entry_of row (length row / 32) i h)

  pub ids_large : (i : ℕ) → i < length row / 32 → largest < id_at i → all_of id_fits (ids i) ≡ false
  ids_large i h l = ids_next i h ∙ ap (λ (b : Bool). b && all_of id_fits (ids (i + 1))) (lt-leb (id_at i) largest l)

  pub ids_on : (i : ℕ) → i < length row / 32 → id_at i ≤ largest → all_of id_fits (ids i) ≡ all_of id_fits (ids (i + 1))
  ids_on i h l = ids_next i h ∙ ap (λ (b : Bool). b && all_of id_fits (ids (i + 1))) (le-leb (id_at i) largest l)

  pub id_fits_lem : (i : ℕ) → i < length row / 32 → all_of id_fits (ids i) ≡ true → (id_at i ≤ largest) × (all_of id_fits (ids (i + 1)) ≡ true)
  id_fits_lem i h e = go (leb (id_at i) largest) refl (sym (ids_next i h) ∙ e)
    where
      go : (b : Bool) → leb (id_at i) largest ≡ b → b && all_of id_fits (ids (i + 1)) ≡ true → (id_at i ≤ largest) × (all_of id_fits (ids (i + 1)) ≡ true)
      go true l e = (leb-true (id_at i) largest l, e)
      go false l e = let z : ◌≡◌ {A = ℕ} 0 1 = cc in absurd (let n : ⊥ = omega arith in n)
