-- One round of the cycle, over the grammar. Assumes nothing.
use Rattle.std.specs.Prelude.{Some, None, Ok, Err}
use Rattle.one_shot_listing.specs.Listing.{count_of}
use Rattle.one_shot_listing.specs.Cycle.{found_of}
use Rattle.short_forms.specs.Short.{varint_of}
use Rattle.one_shot_listing.specs.declared.Found.{Found}
use Rattle.capsule.specs.declared.reader.Ending.{Ending}
use Rattle.walks.proofs.Words.{◌≡◌, refl, ap, ◌∙◌, sym, ℕ, suc, ◌+◌, ◌-◌, ◌≤◌, ◌<◌, arith, List, [], ◌∷◌, length, take, drop, length-drop, drop-drop, length-take-le, le-leb, lt-leb}
use Rattle.one_shot_listing.proofs.Terms.{buffer_too_long, read_varint, reads, plain, Stage, in_type, in_length, in_value, part, whole, capsule_at, parts, Sees, sees_type, sees_length, sees_value, sees_whole, complete, next, parts_is, parts_cut, parts_part, parts_nil, Clean, Truncated, header_bytes, ending_of, longest_buffer, listing_of, onwards, TypeRead, HeadRead}

-- ---- by what stands at the front of the rest

module _ (capsules headers : ℕ) where
  nothing_left : found_of capsules headers 0 ≡ onwards capsules headers []
  unfolding onwards header_bytes
  nothing_left =
      let a : capsules + 0 ≡ capsules = omega arith in
      let b : headers + 0 ≡ headers = omega arith in
      rw (parts_nil plain, a, b)

  unfinished : (l : List ℕ) (x : Stage) → Sees plain l (part x) → found_of capsules headers (length l) ≡ onwards capsules headers l
  unfolding onwards header_bytes
  unfinished l x v =
      let a : capsules + 0 ≡ capsules = omega arith in
      let c : headers + 0 ≡ headers = omega arith in
      rw (parts_part l x v, a, c)

  finished : (l : List ℕ) (t n head : ℕ) → Sees plain l (whole t n head) → onwards (capsules + 1) (headers + head) (drop (head + n) l) ≡ onwards capsules headers l
  unfolding onwards header_bytes capsule_at
  finished l t n head v =
      let w = complete v in
      let rest = (parts (drop (head + n) l)).capsules in
      let bytes : length (take (head + n) l) ≡ head + n = length-take-le (head + n) l w.fits in
      let value : length (take n (drop head l)) ≡ n = length-take-le n (drop head l) (omega (arith, w.fits, length-drop head l)) in
      let a : capsules + suc (length rest) ≡ capsules + 1 + length rest = omega arith in
      let b : headers + (head + n - n + header_bytes rest) ≡ headers + head + header_bytes rest = omega arith in
      rw (parts_is (next v (parts_cut plain (drop (head + n) l))), bytes, value, a, b)

-- ---- at a place of the buffer

pub field_within : (s : List ℕ) (at v k : ℕ) → at ≤ length s → read_varint (drop at s) ≡ Some (varint_of v k) → (at < at + k) × (at + k ≤ length s)
field_within s at v k h e = omega (arith, reads (drop at s) v k e, length-drop at s)

module _ (s : List ℕ) (start : ℕ) (within : start ≤ length s) where
  pub type_within : (at : ℕ) → TypeRead s start at → (start < at) × (at ≤ length s)
  type_within at r = omega (arith, field_within s start r.ctype r.size within r.reads, r.ends)

  pub head_within : (at n : ℕ) → HeadRead s start at n → (start + 1 < at) × (at ≤ length s)
  head_within at n r =
      let w = type_within r.middle r.type_read in
      omega (arith, field_within s r.middle n r.size w.1 r.reads, r.ends)

  module _ (capsules headers : ℕ) where
    -- what stands from `start` on is not complete
    cut : (x : Stage) → Sees plain (drop start s) (part x) → found_of capsules headers (length s - start) ≡ onwards capsules headers (drop start s)
    cut x v = rw (← (length-drop start s)) (unfinished capsules headers (drop start s) x v)

    pub in_type_lem : read_varint (drop start s) ≡ None → found_of capsules headers (length s - start) ≡ onwards capsules headers (drop start s)
    in_type_lem e = go (drop start s) refl
      where
        go : (l : List ℕ) → drop start s ≡ l → found_of capsules headers (length s - start) ≡ onwards capsules headers (drop start s)
        go [] d =
            let n : length s - start ≡ 0 = sym (length-drop start s) ∙ ap length d in
            rw (n, d) (nothing_left capsules headers)
        go (b ∷ l) d = cut in_type (sees_type e)

    pub in_length_lem : (at : ℕ) → TypeRead s start at → read_varint (drop at s) ≡ None → found_of capsules headers (length s - start) ≡ onwards capsules headers (drop start s)
    in_length_lem at r e =
        let d : drop r.size (drop start s) ≡ drop at s = rw (drop-drop, r.ends) in
        cut (in_length r.ctype r.size) (sees_length r.reads (rw d e))

    module _ (at n : ℕ) (r : HeadRead s start at n) where
      length_reads : read_varint (drop r.type_read.size (drop start s)) ≡ Some (varint_of n r.size)
      length_reads = rw (drop-drop, ← r.type_read.ends) r.reads

      pub in_value_lem : length s - at < n → found_of capsules headers (length s - start) ≡ onwards capsules headers (drop start s)
      in_value_lem h =
          cut (in_value r.type_read.ctype n (r.type_read.size + r.size))
          (sees_value r.type_read.reads length_reads (omega (arith, r.type_read.ends, r.ends, length-drop start s)))

      pub at_next : n ≤ length s - at → onwards (capsules + 1) (headers + (at - start)) (drop (at + n) s) ≡ onwards capsules headers (drop start s)
      at_next h =
          let head = r.type_read.size + r.size in
          let a : at - start ≡ head = omega (arith, r.type_read.ends, r.ends) in
          let b : at + n ≡ start + (head + n) = omega (arith, r.type_read.ends, r.ends) in
          rw (a, b, ← (drop-drop (head + n) start s))
          (finished capsules headers (drop start s) r.type_read.ctype n head
          (sees_whole r.type_read.reads length_reads (omega (arith, head_within at n r, r.type_read.ends, r.ends, length-drop start s))))

-- ---- the whole buffer

pub accepted : (s : List ℕ) → length s ≤ longest_buffer → listing_of s ≡ Ok (count_of (length (parts s).capsules) (header_bytes (parts s).capsules) (ending_of (parts s).tail))
unfolding listing_of
accepted s h = rw (le-leb (length s) longest_buffer h)

ends : (s : List ℕ) (e : Ending) → length s ≤ longest_buffer → e ≡ ending_of (parts s).tail → (f : Found) → f ≡ onwards 0 0 s
    → Ok (count_of f.capsules f.headers e) ≡ listing_of s
unfolding onwards
ends s e h k f g =
    let p = parts s in
    let a : 0 + length p.capsules ≡ length p.capsules = omega arith in
    let b : 0 + header_bytes p.capsules ≡ header_bytes p.capsules = omega arith in
    rw (g, k, a, b) (sym (accepted s h))

pub listed_clean : (s : List ℕ) (f : Found) → length s ≤ longest_buffer → f ≡ onwards 0 0 s → f.tail ≡ 0 → Ok (count_of f.capsules f.headers Clean) ≡ listing_of s
unfolding onwards ending_of
listed_clean s f h g z = ends s Clean h (go (parts s).tail (sym (ap (λ (x : Found). x.tail) g) ∙ z)) f g
  where
    go : (l : List ℕ) → length l ≡ 0 → Clean ≡ ending_of l
    go [] e = refl
    go (b ∷ l) e = absurd (let z : ⊥ = omega (arith, e) in z)

pub listed_cut : (s : List ℕ) (f : Found) → length s ≤ longest_buffer → f ≡ onwards 0 0 s → 0 < f.tail → Ok (count_of f.capsules f.headers Truncated) ≡ listing_of s
unfolding onwards ending_of
listed_cut s f h g z = ends s Truncated h (go (parts s).tail (omega (arith, ap (λ (x : Found). x.tail) g, z))) f g
  where
    go : (l : List ℕ) → 0 < length l → Truncated ≡ ending_of l
    go [] e = absurd (let z : ⊥ = omega (arith, e) in z)
    go (b ∷ l) e = refl

pub too_long : (s : List ℕ) → longest_buffer < length s → listing_of s ≡ Err buffer_too_long
unfolding listing_of
too_long s h = rw (lt-leb (length s) longest_buffer h)
