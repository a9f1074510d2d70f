-- A value is the bytes of its entries. Assumes nothing.
use Rattle.std.specs.Prelude.{Some}
use Rattle.short_forms.specs.Short.{varint_of}
use Rattle.walks.proofs.Words.{◌≡◌, refl, sym, ap, ◌∙◌, Option, None, ℕ, zero, suc, ◌+◌, ◌-◌, ◌*◌, ◌/◌, ◌%◌, ◌^◌, ◌≤◌, ◌<◌, div-div-eq-div-mul, div-add-mod', mod-lt, arith, List, [], ◌∷◌, ◌++◌, length, take, length-take-le, drop-append_seam, pow-add, pow_pos}
use Rattle.addresses.proofs.Terms.{Bytes, num, bytes_of, size_of, value_of, read_varint, encode_as, encode, pow_256, num-first, num_lt, bytes_of-num, bytes_take, bytes_drop, split, size_of_pos, size_of-at, read_whole, read-less, whole_incomplete, whole_same, Step, done, malformed, next, ahead, entries, width_of, Entry, entry_at, Range, range_at, entry_bytes, range_bytes, value_bytes, SizedEntry, sized_for, sized_at, sized_bytes, Each, IsEntry, IsRange, IsBytesOf, NothingLost, SizesBeside, WrittenShortest, Decides, EntriesDecide}
use Rattle.addresses.proofs.{Lists.impossible, Lists.Shrinks, Lists.entries-end, Lists.entries_malformed, Lists.entries_next, Lists.map_step, Lists.entries-map, Reading.entry_not_end, Reading.entry_front, Reading.entry_shrinks, Reading.RangeFront, Reading.range_front, Reading.range_shrinks, Reading.range_not_end}

-- ---- any entries

module _ {A : Type 0} (read : List ℕ → Step A) (bytes : A → List ℕ) (Is : A → Type 0)
    (shrinks : Shrinks read)
    (ends : (v : List ℕ) → read v ≡ done → v ≡ [])
    (fronts : (v rest : List ℕ) (e : A) → Bytes v → read v ≡ next e rest → (v ≡ bytes e ++ rest) × Is e) where
  rest-bytes : (v rest : List ℕ) (e : A) → Bytes v → v ≡ bytes e ++ rest → Bytes rest
  rest-bytes v rest e b p = rw (p, drop-append_seam (bytes e) rest) at (bytes_drop (length (bytes e)) v b)

  shorter : (n : ℕ) (v : List ℕ) → length v < n → (es : List A) → Bytes v → entries read v ≡ Some es → (v ≡ value_bytes bytes es) × Each Is es
  unfolding value_bytes ahead
  shorter zero v h es b p = absurd (let z : ⊥ = omega arith in z)
  shorter (suc n) v h es b p = go (λ t k. shorter n t k) (read v) refl
    where
      go : ((t : List ℕ) → length t < n → (es : List A) → Bytes t → entries read t ≡ Some es → (t ≡ value_bytes bytes es) × Each Is es) → (s : Step A) → read v ≡ s → (v ≡ value_bytes bytes es) × Each Is es
      go again done e = let is_e : es ≡ [] = cc (entries-end read shrinks v e) in rw is_e (ends v e, tt)
      go again malformed e = impossible (cc (entries_malformed read shrinks v e))
      go again (next a rest) e = on (entries read rest) refl
        where
          on : (o : Option (List A)) → entries read rest ≡ o → (v ≡ value_bytes bytes es) × Each Is es
          on None d = impossible (cc (entries_next read shrinks v rest a e ∙ ap (ahead a) d))
          on (Some l) d =
              let is_e : es ≡ a ∷ l = cc (entries_next read shrinks v rest a e ∙ ap (ahead a) d) in
              let front = fronts v rest a b e in
              let k = shrinks v rest a e in
              let tail = again rest (omega arith) l (rest-bytes v rest a b front.0) d in
              rw is_e (front.0 ∙ ap (λ (t : List ℕ). bytes a ++ t) tail.0, (front.1, tail.1))

  is-bytes_of : IsBytesOf read bytes Is
  is-bytes_of v es b p = shorter (suc (length v)) v (omega arith) es b p

decides : {A : Type 0} (read : List ℕ → Step A) (bytes : A → List ℕ) (Is : A → Type 0) → IsBytesOf read bytes Is → Decides read
decides read bytes Is f u v es b d p q = (f u es b p).0 ∙ sym (f v es d q).0

-- ---- request IDs in the sizes in which they stand

id_bytes_lem : (b : ℕ) (s : List ℕ) (j : ℕ) → size_of b ≡ suc j → j ≤ length s → Bytes (b ∷ s) → b ∷ take j s ≡ encode_as (b / 64) (value_of (suc j) (num (b ∷ take j s)))
unfolding size_of value_of encode_as
id_bytes_lem b s j e l h =
    let n : ℕ = num (b ∷ take j s) in
    let is_l : length (take j s) ≡ j = length-take-le j s l in
    let d : Bytes (take j s) = bytes_take j s h.1 in
    let k : 8 * suc j - 2 ≡ 8 * j + 6 = omega arith in
    let room : 2 ^ (8 * suc j - 2) ≡ 256 ^ j * 64 = rw (k, pow-add 2 (8 * j) 6, pow_256 j) in
    let first : n / 256 ^ j ≡ b = rw is_l at (num-first b (take j s) d) in
    let top : n / (256 ^ j * 64) ≡ b / 64 = sym (div-div-eq-div-mul n (256 ^ j) 64) ∙ ap (λ (m : ℕ). m / 64) first in
    let whole : b / 64 * (256 ^ j * 64) + n % (256 ^ j * 64) ≡ n = rw top at (div-add-mod' n (256 ^ j * 64)) in
    rw (e, room, whole) (sym (rw is_l at (bytes_of-num (b ∷ take j s) (h.0, d))))

id_front : (b : ℕ) (s : List ℕ) (n k : ℕ) → Bytes (b ∷ s) → read_varint (b ∷ s) ≡ Some (varint_of n k) → (take k (b ∷ s) ≡ encode_as (b / 64) n) × (n < 2 ^ (8 * 2 ^ (b / 64) - 2))
id_front b s n k h e = split (size_of b) (length (b ∷ s)) (λ l. go (size_of b) refl l (size_of_pos b)) (λ l. whole_incomplete e (read-less b s l))
  where
    go : (j : ℕ) → size_of b ≡ j → size_of b ≤ length (b ∷ s) → 0 < size_of b → (take k (b ∷ s) ≡ encode_as (b / 64) n) × (n < 2 ^ (8 * 2 ^ (b / 64) - 2))
    go zero d l p = absurd (let z : ⊥ = omega arith in z)
    go (suc j) d l p =
        let w = rw d at (read_whole b s l) in
        let same = whole_same (sym e ∙ w) in
        let is_j : 2 ^ (b / 64) ≡ suc j = size_of-at b (b / 64) refl ∙ d in
        rw (same.1, same.0) (id_bytes_lem b s j d (omega arith) h, rw is_j (unfold value_of in mod-lt (num (b ∷ take j s)) (pow_pos (8 * suc j - 2))))

-- ---- ASSIGN and REQUEST

-- an entry with its size is the one that stands there
sized_next : (w : ℕ) (s : Step Entry) (rest : List ℕ) (f : SizedEntry) → sized_for w s ≡ next f rest → (s ≡ next f.entry rest) × (w ≡ f.width)
unfolding sized_for
sized_next w done rest f q = impossible (cc)
sized_next w malformed rest f q = impossible (cc)
sized_next w (next e t) rest f q = let is_f : ◌≡◌ {A = SizedEntry} (record { width = w; entry = e }) f = cc in let is_t : t ≡ rest = cc in (rw (← is_f, is_t), cc)

sized_entry : (v rest : List ℕ) (f : SizedEntry) → sized_at v ≡ next f rest → entry_at v ≡ next f.entry rest
unfolding sized_at
sized_entry [] rest f p = impossible (cc)
sized_entry (b ∷ v) rest f p = (sized_next (b / 64) (entry_at (b ∷ v)) rest f p).0

pub sized_shrinks : Shrinks sized_at
sized_shrinks v rest f p = entry_shrinks v rest f.entry (sized_entry v rest f p)

sized_ends : (v : List ℕ) → sized_at v ≡ done → v ≡ []
unfolding sized_at sized_for
sized_ends [] p = refl
sized_ends (b ∷ v) p = go (entry_at (b ∷ v)) refl p
  where
    go : (s : Step Entry) → entry_at (b ∷ v) ≡ s → sized_for (b / 64) s ≡ done → b ∷ v ≡ []
    go done d q = entry_not_end (b ∷ v) (omega arith) d
    go malformed d q = impossible (cc)
    go (next e t) d q = impossible (cc)

sized_front : (v rest : List ℕ) (f : SizedEntry) → Bytes v → sized_at v ≡ next f rest → (v ≡ sized_bytes f ++ rest) × IsEntry f
unfolding sized_at sized_bytes
sized_front [] rest f h p = impossible (cc)
sized_front (b ∷ v) rest f h p =
    let s = sized_next (b / 64) (entry_at (b ∷ v)) rest f p in
    let g = entry_front (b ∷ v) rest f.entry s.0 in
    let i = id_front b v f.entry.id g.size h g.reads in
    let most : b / 64 ≤ 3 = omega (arith, h.0) in
    (g.joins ∙ rw (i.0 ∙ ap (λ (w : ℕ). encode_as w f.entry.id) s.1), (rw s.1 at most, rw s.1 at i.1, g.some, g.width))

-- ---- ranges

range-ends : (v : List ℕ) → range_at v ≡ done → v ≡ []
range-ends [] p = refl
range-ends (b ∷ v) p = range_not_end b v p

range_joins : (v rest : List ℕ) (r : Range) → Bytes v → range_at v ≡ next r rest → (v ≡ range_bytes r ++ rest) × IsRange r
unfolding range_bytes
range_joins v rest r h p = go (range_front v rest r p)
  where
    go : RangeFront v rest r → (v ≡ range_bytes r ++ rest) × IsRange r
    go f =
        let b = f.bytes h in
        let x : bytes_of (width_of r.version) r.start ≡ f.start = rw (f.is_start, ← f.start_width) (bytes_of-num f.start b.0) in
        let y : bytes_of (width_of r.version) r.end ≡ f.end = rw (f.is_end, ← f.end_width) (bytes_of-num f.end b.1) in
        let l : num f.start < 256 ^ length f.start = num_lt f.start b.0 in
        let m : num f.end < 256 ^ length f.end = num_lt f.end b.1 in
        (rw (x, y) f.joins, (f.some, rw (f.is_start, ← f.start_width) l, rw (f.is_end, ← f.end_width) m))

-- ---- the claims

pub nothing_lost : NothingLost
nothing_lost = (is-bytes_of sized_at sized_bytes IsEntry sized_shrinks sized_ends sized_front, is-bytes_of range_at range_bytes IsRange range_shrinks range-ends range_joins)

pub entries_decide : EntriesDecide
entries_decide = (decides sized_at sized_bytes IsEntry nothing_lost.0, decides range_at range_bytes IsRange nothing_lost.1)

pub sizes_beside : SizesBeside
sizes_beside v = entries-map (λ (f : SizedEntry). f.entry) sized_at entry_at alike v
  where
    alike : (v : List ℕ) → entry_at v ≡ map_step (λ (f : SizedEntry). f.entry) (sized_at v)
    alike [] = unfold entry_at sized_at map_step in refl
    alike (b ∷ v) = unfold sized_at in go (entry_at (b ∷ v))
      where
        go : (s : Step Entry) → s ≡ map_step (λ (f : SizedEntry). f.entry) (sized_for (b / 64) s)
        go done = unfold map_step sized_for in refl
        go malformed = unfold map_step sized_for in refl
        go (next e rest) = unfold map_step sized_for in refl

pub written_shortest : WrittenShortest
unfolding entry_bytes encode sized_bytes
written_shortest e = refl
