-- For every state that can be made a stream that makes it, and its plan as the book's. Assumes nothing.
use Rattle.std.specs.Prelude.{Some}
use Rattle.short_forms.specs.Short.{varint_of}
use Rattle.walks.proofs.Words.{◌≡◌, sym, ap, ◌∙◌, subst, ℕ, zero, suc, ◌+◌, ◌-◌, ◌≤◌, ◌<◌, arith, Bool, true, ◌&&◌, List, ◌++◌, length, drop, replicate, length-append, length-drop, length-replicate, take_at, drop_at, leb, ltb, ltb-true, leb-true}
use Rattle.capsule_laws.proofs.Terms.{Partial, Bytes, largest, read_varint, encode_as, partial_of, held_bytes, is_partial, bytes-append, bytes_of-bytes, length-bytes_of, every_form_read, parted, held_bytes_lem, held_read, partial_held, Opening, Phase, InType, InLength, InValue, Reader, Stage, in_type, in_length, in_value, part, Parts, longest_address_value, opted, extent_of, gathers, keeps, parts_for, append, phase_at, phase_of, reader_of, is_opening, is_makeable, is_makeable_phase, plan_of, StandsAt}
use Rattle.capsule_laws.proofs.{Grammar.sees_type, Grammar.sees_length, Grammar.sees_value, Appending.Shows, Appending.for_part, Appending.tail_shows, Steps.Same, Steps.same}

-- ---- a stream that makes the phase

pub record Origin (op : Opening) (phase : Phase) : Type 0 where
  pub stream : List ℕ
  pub bytes : Bytes stream
  pub stage : Stage
  pub seen : Shows op stream (part stage)
  pub is : phase_at op stream stage ≡ phase

-- t as a varint of eight bytes
module _ (t : ℕ) (h : t ≤ largest) where
  eight : List ℕ
  eight = encode_as 3 t

  eight_read : (r : List ℕ) → read_varint (eight ++ r) ≡ Some (varint_of t 8)
  unfolding eight largest
  eight_read r = every_form_read 3 t (omega arith) (omega arith) r

  eight_length : length eight ≡ 8
  unfolding eight encode_as
  eight_length = length-bytes_of 8 _

  eight_bytes : Bytes eight
  unfolding eight encode_as
  eight_bytes = bytes_of-bytes 8 _

  eight_drop : (r : List ℕ) → drop 8 (eight ++ r) ≡ r
  eight_drop r = drop_at eight r 8 eight_length

unfoldable pub zeros : ℕ → List ℕ
zeros n = replicate n 0

pub zeros-length : (n : ℕ) → length (zeros n) ≡ n
unfolding zeros
zeros-length n = length-replicate n 0

zeros-bytes : (n : ℕ) → Bytes (zeros n)
unfolding zeros
zeros-bytes zero = tt
zeros-bytes (suc n) = (omega arith, zeros-bytes n)

module _ (op : Opening) where
  origin_length : (t : ℕ) (p : Partial) → t ≤ largest → is_partial p ≡ true → Origin op (InLength t p)
  unfolding phase_at
  origin_length t p h e =
      let r = held_bytes p in
      let d = eight_drop t h r in
      record {
        stream = eight t h ++ r;
        bytes = bytes-append (eight t h) r (eight_bytes t h) (held_bytes_lem p);
        stage = in_length t 8;
        seen = sees_length (eight_read t h r) (rw d (held_read p e));
        is = ap (λ (l : List ℕ). InLength t (partial_of l)) d ∙ ap (InLength t) (partial_held p e);
      }

  origin_value : (t n left : ℕ) → t ≤ largest → n ≤ largest → 0 < left → left ≤ extent_of op t n → Origin op (InValue t n left)
  unfolding phase_at
  origin_value t n left h i pos le =
      let m = extent_of op t n in
      let v = zeros (m - left) in
      let r = eight n i ++ v in
      let d = eight_drop t h r in
      let l : length (eight t h ++ r) ≡ 16 + (m - left) =
      omega (arith, length-append (eight t h) r, length-append (eight n i) v, eight_length t h, eight_length n i, zeros-length (m - left)) in
      record {
        stream = eight t h ++ r;
        bytes = bytes-append (eight t h) r (eight_bytes t h) (bytes-append (eight n i) v (eight_bytes n i) (zeros-bytes (m - left)));
        stage = in_value t n 16;
        seen = sees_value (eight_read t h r) (subst (λ (l : List ℕ). read_varint l ≡ Some (varint_of n 8)) (sym d) (eight_read n i v)) (omega arith);
        is = ap (InValue t n) (omega arith);
      }

  pub origin : (phase : Phase) → is_makeable_phase op phase ≡ true → Origin op phase
  unfolding is_makeable_phase phase_at
  origin (InType p) e = record { stream = held_bytes p; bytes = held_bytes_lem p; stage = in_type; seen = sees_type (held_read p e); is = ap InType (partial_held p e) }
  origin (InLength t p) e = let q = parted (leb t largest) (is_partial p) e in origin_length t p (leb-true t largest q.0) q.1
  origin (InValue t n left) e =
      let m = extent_of op t n in
      let a = parted (leb t largest) (leb n largest && (ltb 0 left && leb left m)) e in
      let b = parted (leb n largest) (ltb 0 left && leb left m) a.1 in
      let c = parted (ltb 0 left) (leb left m) b.1 in
      origin_value t n left (leb-true t largest a.0) (leb-true n largest b.0) (ltb-true 0 left c.0) (leb-true left m c.1)

-- a book whose state this is
pub record Written (r : Reader) : Type 0 where
  pub stream : List ℕ
  pub bytes : Bytes stream
  pub stage : Stage
  pub seen : Shows r.opening stream (part stage)
  pub accepted : is_opening r.opening ≡ true
  pub is : reader_of r.opening stream r.finished ≡ r

pub written : (r : Reader) → is_makeable r ≡ true → Written r
unfolding is_makeable reader_of phase_of
written r e =
    let q = parted (is_opening r.opening) (is_makeable_phase r.opening r.phase) e in
    let op = r.opening in
    let o = origin op r.phase q.1 in
    let p : phase_at op (parts_for op o.stream).tail (parts_for op o.stream).stage ≡ r.phase = ap (λ (x : Parts). phase_at op x.tail x.stage) (for_part op o.stream o.stage o.seen) ∙ o.is in
    record {
      stream = o.stream;
      bytes = o.bytes;
      stage = o.stage;
      seen = o.seen;
      accepted = q.0;
      is = λ i. record { opening = r.opening; phase = p i; finished = r.finished };
    }

-- ---- a plan is the book's whatever buffers are lent

-- some buffer of any size holds what was gathered
standing : (op : Opening) (stores : ℕ → ℕ → Bool) (size : ℕ) (r : List ℕ) (x : Stage) → Shows op r (part x) → (g : List ℕ) × StandsAt stores r x g × (size ≤ length g)
standing op stores size r x (sees_type e) = (zeros size, tt, omega (arith, zeros-length size))
standing op stores size r x (sees_length e d) = (zeros size, tt, omega (arith, zeros-length size))
standing op stores size r x (sees_value {j = j} {k = k} e d h) =
    let z = zeros size in (
      drop (j + k) r ++ z,
      λ gs. take_at (drop (j + k) r) z (length r - (j + k)) (length-drop (j + k) r),
      omega (arith, length-append (drop (j + k) r) z, zeros-length size),
    )

-- what ended is by the second buffer, and nothing that is said here by the gathering buffer
pub planned_by : (op : Opening) (s p a : List ℕ) → Bytes s → Bytes p → (opted op ≡ true → longest_address_value ≤ length a) → StandsAt (keeps op) (parts_for op s).tail (parts_for op s).stage a
    → (g : List ℕ) × Same op s p g a (plan_of op p (phase_of op (parts_for op s))) (append op s p)
planned_by op s p a w h o sa =
    let g = standing op (gathers op) op.limit (parts_for op s).tail (parts_for op s).stage (tail_shows op s) in
    (g.0, same op s p g.0 a w h g.2 o g.1 sa)

-- the phase is by neither
pub planned : (op : Opening) (s p : List ℕ) → Bytes s → Bytes p → (g : List ℕ) × (a : List ℕ) × Same op s p g a (plan_of op p (phase_of op (parts_for op s))) (append op s p)
planned op s p w h =
    let a = standing op (keeps op) longest_address_value (parts_for op s).tail (parts_for op s).stage (tail_shows op s) in
    let q = planned_by op s p a.0 w h (λ o. a.2) a.1 in
    (q.0, a.0, q.1)
