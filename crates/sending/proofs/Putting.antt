-- Writing a header and a payload in place. Assumes nothing.
use Rattle.std.specs.Prelude.{Result, Ok, Err}
use Rattle.refusals.specs.declared.Refusal.{Refusal}
use Rattle.walks.proofs.Words.{◌≡◌, sym, ap, subst, ◌∙◌, ℕ, ◌+◌, ◌≤◌, ◌<◌, arith, add-one, Bool, cond, List, [], ◌∷◌, ◌++◌, length, set, length-append, append-nil, sets, take-length, length-sets, leb, pow_mono, le-leb, lt-leb}
use Rattle.sending.proofs.Terms.{output_too_short, number_too_large, frame_too_long, largest, least_size, encode, Writing, writing, refuses, write_at, write_varint, sets-append, least, length-encode, write_fits, copying, copy, copied, capsule_header, frame_bytes, put_frame, put_capsule_header, put_frame_header, put_capsule_by, put_frame_by}

-- a size is at most 8
pub size_le : (size n : ℕ) → size ≡ least_size n → size ≤ 8
unfolding least_size
size_le size n e = subst (λ (k : ℕ). k ≤ 8) (sym e) (pow_mono (least n).most)

-- ---- a varint, and then a payload

module _ (n : ℕ) (out : List ℕ) (at : ℕ) (h : n ≤ largest) where
  pub varint_there : (r : Result ℕ Refusal) (after : List ℕ) → at + least_size n ≤ length out → writing r after ≡ write_varint n out at → after ≡ sets out at (encode n)
  varint_there r after l w = ap (λ (x : Writing). x.output) (w ∙ sym (write_fits n out at h l))

pub put_both : (head : ℕ) (payload out : List ℕ) (at size : ℕ) (r : Result ℕ Refusal) (mid : List ℕ) (done : Bool) (after : List ℕ)
    → head ≤ largest → at + (least_size head + length payload) ≤ length out → size ≡ least_size head
    → writing r mid ≡ write_varint head out at → copying done after ≡ copy payload 0 mid (at + size) (length payload)
    → after ≡ sets out at (encode head ++ payload)
put_both head payload out at size r mid done after h f z w c =
    let is_mid : mid ≡ sets out at (encode head) = varint_there head out at h r mid (omega arith) w in
    let room : at + size + length payload ≤ length mid = omega (arith, ap (λ (l : List ℕ). length l) is_mid, length-sets out at (encode head)) in
    let len : at + size ≡ at + length (encode head) = omega (arith, length-encode head) in
    copied payload 0 mid (at + size) (length payload) done after c (omega arith) room
    ∙ ap (sets mid (at + size)) (take-length payload)
    ∙ ap (λ (l : List ℕ). sets l (at + size) payload) is_mid
    ∙ ap (λ (i : ℕ). sets (sets out at (encode head)) i payload) len
    ∙ sets-append out at (encode head) payload

-- ---- at a place that is named

module _ (bytes out : List ℕ) (place need : ℕ) (n : need ≡ length bytes) where
  pub at-short : length out < place + need → writing (Err output_too_short) out ≡ write_at bytes out place
  unfolding write_at refuses
  at-short h = rw (lt-leb (place + length bytes) (length out) (omega arith))

  pub at-fits : place + need ≤ length out → (after : List ℕ) → after ≡ sets out place bytes → writing (Ok need) after ≡ write_at bytes out place
  unfolding write_at
  at-fits h after e = rw (le-leb (place + length bytes) (length out) (omega arith), e, n)

-- ---- a payload of n bytes, refused above 65,535, and a frame of so many, refused above the path size

module _ (out : List ℕ) (n : ℕ) where
  pub too_large : 65535 < n → (w : Writing) → writing (Err number_too_large) out ≡ cond (leb n 65535) w (refuses number_too_large out)
  unfolding refuses
  too_large h w = rw (lt-leb n 65535 h)

  pub not_large : n ≤ 65535 → {v w : Writing} → v ≡ w → v ≡ cond (leb n 65535) w (refuses number_too_large out)
  not_large h e = rw (le-leb n 65535 h) e

  module _ (path : ℕ) where
    pub too_long : path < n → (w : Writing) → writing (Err frame_too_long) out ≡ cond (leb n path) w (refuses frame_too_long out)
    unfolding refuses
    too_long h w = rw (lt-leb n path h)

    pub not_long : n ≤ path → {v w : Writing} → v ≡ w → v ≡ cond (leb n path) w (refuses frame_too_long out)
    not_long h e = rw (le-leb n path h) e

-- ---- what each has room for

module _ (n size : ℕ) (z : size ≡ least_size n) (payload : List ℕ) where
  pub capsule_need : 1 + size + length payload ≡ length (capsule_header n ++ payload)
  unfolding capsule_header
  capsule_need = omega (arith, length-append (encode n) payload, length-encode n)

  pub frame_need : size + length payload ≡ length (encode n ++ payload)
  frame_need = omega (arith, length-append (encode n) payload, length-encode n)

-- the type, and then the rest
pub after_type : (rest out : List ℕ) (place : ℕ) → sets (set out place 0) (place + 1) rest ≡ sets out place (0 ∷ rest)
after_type rest out place = ap (λ (i : ℕ). sets (set out place 0) i rest) (add-one place)

-- ---- a header with its payload, and a header alone

module _ (out : List ℕ) (place n : ℕ) where
  pub header_alone : put_capsule_by n [] out place ≡ put_capsule_header n out place
  unfolding put_capsule_by put_capsule_header
  header_alone = rw (append-nil (capsule_header n))

  pub frame_header_alone : (q path : ℕ) → put_frame_by q path n [] out place ≡ put_frame_header q path n out place
  unfolding put_frame_by put_frame_header
  frame_header_alone q path = rw (append-nil (encode q))

pub frame_whole : (q path : ℕ) (payload out : List ℕ) (place : ℕ) → put_frame_by q path (length payload) payload out place ≡ put_frame q path payload out place
unfolding put_frame_by put_frame frame_bytes
frame_whole q path payload out place = rw (length-append (encode q) payload)
