-- A header alone, beside the whole capsule or frame: both are written or both are refused, but for the room. Assumes nothing.
use Rattle.std.specs.Prelude.{Some, Result, Ok, Err}
use Rattle.walks.proofs.Words.{◌≡◌, refl, sym, ap, subst, ◌∙◌, ℕ, ◌+◌, ◌≤◌, arith, Bool, true, false, cond, List, [], ◌++◌, length, length-append, sets, leb, le-leb, leb-true}
use Rattle.sending.proofs.Terms.{Refusal, output_too_short, number_too_large, frame_too_long, Quarter, least_size, encode, length-encode, shortest, Writing, writing, refuses, write_at, sets-append, capsule_header, capsule_bytes, frame_bytes, agreed, sending_of, sending_to, put_capsule, put_capsule_header, put_frame, put_frame_header, frame_written, frame_header_written, write_frame, write_frame_header, HeadersShortest, HeaderThenPayload, HeaderRefused, HeaderAlone}

no_both {ℓ} : {X : Type ℓ} {r : Refusal} {k : ℕ} {out after : List ℕ} → writing (Err r) out ≡ writing (Ok k) after → X
no_both e = absurd (let a = ap (λ (w : Writing). w.answer) e in let m : ◌≡◌ {A = ℕ} 0 1 = cc in let n : ⊥ = omega arith in n)

-- w writes the head and the payload, and h the head; or both refuse
data Both (head payload out : List ℕ) (place : ℕ) (w h : Writing) : Type 0 where
  written : w ≡ write_at (head ++ payload) out place → h ≡ write_at head out place → Both head payload out place w h
  refused : (r : Refusal) → w ≡ refuses r out → h ≡ refuses r out → Both head payload out place w h

module _ (head payload out : List ℕ) (place : ℕ) where
  unless : (b : Bool) (r : Refusal) (w h : Writing) → Both head payload out place w h → Both head payload out place (cond b w (refuses r out)) (cond b h (refuses r out))
  unless true r w h both = both
  unless false r w h both = refused r refl refl

  -- ---- what was written

  abbrev Then : Writing → ℕ → List ℕ → Type 0
  Then h k after = (h ≡ writing (Ok (length head)) (sets out place head)) × (k ≡ length head + length payload) × (after ≡ sets (sets out place head) (place + length head) payload)

  fitting : (k : ℕ) (after : List ℕ) (b : Bool) → leb (place + length (head ++ payload)) (length out) ≡ b
      → cond b (writing (Ok (length (head ++ payload))) (sets out place (head ++ payload))) (refuses output_too_short out) ≡ writing (Ok k) after → Then (write_at head out place) k after
  unfolding refuses write_at
  fitting k after false l e = no_both e
  fitting k after true l e =
      let n = length-append head payload in
      let room : place + length head ≤ length out = omega (arith, leb-true (place + length (head ++ payload)) (length out) l, n) in
      let a = ap (λ (w : Writing). w.answer) e in
      let m : length (head ++ payload) ≡ k = cc in (
        rw (le-leb (place + length head) (length out) room),
        sym m ∙ n,
        ap (λ (w : Writing). w.output) (sym e) ∙ sym (sets-append out place head payload),
      )

  then_payload : (w h : Writing) (k : ℕ) (after : List ℕ) → Both head payload out place w h → w ≡ writing (Ok k) after → Then h k after
  unfolding refuses
  then_payload w h k after (refused r x y) e = no_both (sym x ∙ e)
  then_payload w h k after (written x y) e =
      subst (λ (h : Writing). Then h k after) (sym y)
      (fitting k after (leb (place + length (head ++ payload)) (length out)) refl (unfold write_at in sym x ∙ e))

  -- ---- what was refused, for another reason than the room

  short : (bytes : List ℕ) (why : Refusal) → (why ≡ output_too_short → ⊥) → write_at bytes out place ≡ refuses why out → ⊥
  unfolding write_at refuses
  short bytes why n e = go (leb (place + length bytes) (length out)) e
    where
      go : (b : Bool) → cond b (writing (Ok (length bytes)) (sets out place bytes)) (writing (Err output_too_short) out) ≡ writing (Err why) out → ⊥
      go true z = no_both (sym z)
      go false z = n (let a = ap (λ (w : Writing). w.answer) z in let s : output_too_short ≡ why = cc in sym s)

  refused_alike : (w h : Writing) (why : Refusal) → (why ≡ output_too_short → ⊥) → Both head payload out place w h → (h ≡ refuses why out → w ≡ refuses why out) × (w ≡ refuses why out → h ≡ refuses why out)
  refused_alike w h why n (refused r x y) = (λ e. x ∙ sym y ∙ e, λ e. y ∙ sym x ∙ e)
  refused_alike w h why n (written x y) = (λ e. absurd (short head why n (sym y ∙ e)), λ e. absurd (short (head ++ payload) why n (sym x ∙ e)))

-- ---- capsules and frames

-- what stands before the payload
head_of : Result Quarter Refusal → List ℕ
head_of (Err r) = []
head_of (Ok q) = encode q.0

module _ (payload out : List ℕ) (place : ℕ) where
  capsules : Both (capsule_header (length payload)) payload out place (put_capsule payload out place) (put_capsule_header (length payload) out place)
  unfolding put_capsule put_capsule_header capsule_bytes
  capsules = unless _ _ out place (leb (length payload) 65535) number_too_large _ _ (written refl refl)

  frames : (s : Result Quarter Refusal) (path : ℕ) → Both (head_of s) payload out place (frame_written s path payload out place) (frame_header_written s path (length payload) out place)
  unfolding frame_written frame_header_written put_frame put_frame_header frame_bytes head_of
  frames (Err r) path = refused r refl refl
  frames (Ok q) path =
      unless _ _ out place (leb (length payload) 65535) number_too_large _ _
      (subst (λ (m : ℕ). Both (encode q.0) payload out place (cond (leb m path) (write_at (encode q.0 ++ payload) out place) (refuses frame_too_long out)) (cond (leb (length (encode q.0) + length payload) path) (write_at (encode q.0) out place) (refuses frame_too_long out)))
      (sym (length-append (encode q.0) payload))
      (unless _ _ out place (leb (length (encode q.0) + length payload) path) frame_too_long _ _ (written refl refl)))

  -- where a frame was written the head is the quarter
  head_is : (s : Result Quarter Refusal) (path : ℕ) (k : ℕ) (after : List ℕ) (q : Quarter) → frame_written s path payload out place ≡ writing (Ok k) after → ((p : Quarter) → s ≡ Ok p → p ≡ q) → head_of s ≡ encode q.0
  unfolding frame_written refuses head_of
  head_is (Err r) path k after q e to = no_both e
  head_is (Ok p) path k after q e to = ap (λ (p : Quarter). encode p.0) (to p refl)

pub header_then_payload : HeaderThenPayload
unfolding write_frame write_frame_header
header_then_payload payload out after place k = (
  λ e. then_payload _ payload out place _ _ k after (capsules payload out place) e,
  λ t id ours peers path q is e.
      let s = sending_of t id (agreed ours peers) in
      let same : head_of s ≡ encode q.0 = head_is payload out place s path k after q e (λ p to. let z : Some p ≡ Some q = sym (sending_to t id (agreed ours peers) p to) ∙ is in cc) in
      subst (λ (head : List ℕ). Then head payload out place (frame_header_written s path (length payload) out place) k after) same
      (then_payload _ payload out place _ _ k after (frames payload out place s path) e),
)

pub header_refused : HeaderRefused
unfolding write_frame write_frame_header
header_refused payload out place why n = (
  refused_alike _ payload out place _ _ why n (capsules payload out place),
  λ t id ours peers path. refused_alike _ payload out place _ _ why n (frames payload out place (sending_of t id (agreed ours peers)) path),
)

pub header-alone : HeaderAlone
unfolding put_capsule_header write_frame_header frame_header_written put_frame_header
header-alone n out place l = (
  rw (le-leb n 65535 l),
  λ t id ours peers path q to fits. rw (to, le-leb n 65535 l, le-leb (length (encode q.0) + n) path fits),
)

-- ---- shortest

pub headers_shortest : HeadersShortest
unfolding capsule_bytes capsule_header frame_bytes
headers_shortest n size s payload e =
    let m = shortest s n size e in (
      λ is_n. omega (arith, m, length-append (encode (length payload)) payload, length-encode (length payload), ap least_size is_n),
      omega (arith, m, length-append (encode n) payload, length-encode n),
    )
