-- What a feeding is to do. Assumes nothing.
use Rattle.std.specs.Prelude.{Option, Some, None}
use Rattle.walks.proofs.Words.{◌≡◌, refl, ℕ, ◌+◌, ◌-◌, ◌≤◌, ◌<◌, arith, Bool, true, false, cond, ◌&&◌, ◌||◌, List, ◌++◌, length, take, drop, length-append, length-drop, take_all, leb, ltb, eqb, le-leb, lt-leb, leb-true, leb-false}
use Rattle.planning.proofs.Terms.{zero_one, no_true, Varint, Partial, VarintTaken, Impossible, More, Ends, largest, read_varint, held_bytes, is_partial, taken_of, take_varint, length-bytes_of, reads, parted, starts_le, Role, Endpoint, Intermediary, Kind, Datagram, Address, Unknown, Opening, Plan, Phase, InType, InLength, InValue, longest_address_value, opted, kind_of, extent_by, extent_of, report_of, forwards_by, forwards, gathers_by, gathers, keeps_by, keeps, no_bytes, is_makeable_phase, plan_value, plan_head, plan_length, plan_type, plan_of, held_of}

-- ---- a varint that goes on

-- one that ends has used no more bytes than there are
module _ (part : Partial) (s : List ℕ) (used v : ℕ) where
  taken-within : (r : Option Varint) → read_varint (held_bytes part ++ s) ≡ r → taken_of part.have (held_bytes part ++ s) r ≡ Ends used v → used ≤ length s
  unfolding taken_of held_bytes
  taken-within None e d = zero_one (cc)
  taken-within (Some read) e d =
      let is_used : read.size - part.have ≡ used = cc in
      omega (arith, (reads (held_bytes part ++ s) read.value read.size e).fits, length-append (held_bytes part) s, length-bytes_of part.have part.raw)

  pub ends-within : take_varint part s ≡ Ends used v → used ≤ length s
  unfolding take_varint
  ends-within e = go (is_partial part) refl
    where
      go : (b : Bool) → is_partial part ≡ b → used ≤ length s
      go true h = taken-within (read_varint (held_bytes part ++ s)) refl (rw h at e)
      go false h = zero_one (cc (rw h at e))

-- the rest of a piece, as the code lends it
pub rest_of : (p : List ℕ) (at : ℕ) → take (length p - at) (drop at p) ≡ drop at p
rest_of p at = take_all (length p - at) (drop at p) (omega (arith, length-drop at p))

-- ---- the plans, one step at a time

module _ (op : Opening) (p : List ℕ) (at t n left : ℕ) where
  pub value-ends : left ≤ length p - at
      → plan_value op p at t n left ≡ record { next = InType no_bytes; consumed = at + left; ended = Some (report_of op t n); forward = forwards op t; store = gathers op t n; keep = keeps op t n; at = at; place = extent_of op t n - left }
  unfolding plan_value
  value-ends h = rw (le-leb left (length p - at) h)

  pub value_goes : length p - at < left
      → plan_value op p at t n left ≡ record { next = InValue t n (left - (length p - at)); consumed = length p; ended = None; forward = forwards op t; store = gathers op t n; keep = keeps op t n; at = at; place = extent_of op t n - left }
  unfolding plan_value
  value_goes h = rw (lt-leb left (length p - at) h)

module _ (op : Opening) (p : List ℕ) (at t : ℕ) (part : Partial) where
  pub length_impossible : take_varint part (drop at p) ≡ Impossible → plan_length op p at t part ≡ plan_head (InLength t part) 0 false
  unfolding plan_length
  length_impossible e = rw (e, plan_length)

  pub length_more : (q : Partial) → take_varint part (drop at p) ≡ More q → plan_length op p at t part ≡ plan_head (InLength t q) (length p) (forwards op t)
  unfolding plan_length
  length_more q e = rw (e, plan_length)

  pub length-ends : (used n : ℕ) → take_varint part (drop at p) ≡ Ends used n → plan_length op p at t part ≡ plan_value op p (at + used) t n (extent_of op t n)
  unfolding plan_length
  length-ends used n e = rw (e, plan_length)

module _ (op : Opening) (p : List ℕ) (part : Partial) where
  pub type_impossible : take_varint part p ≡ Impossible → plan_type op p part ≡ plan_head (InType part) 0 false
  unfolding plan_type
  type_impossible e = rw (e, plan_type)

  pub type_more : (q : Partial) → take_varint part p ≡ More q → plan_type op p part ≡ plan_head (InType q) (length p) false
  unfolding plan_type
  type_more q e = rw (e, plan_type)

  pub type_ends : (used t : ℕ) → take_varint part p ≡ Ends used t → plan_type op p part ≡ plan_length op p used t no_bytes
  unfolding plan_type
  type_ends used t e = rw (e, plan_type)

-- ---- a plan keeps within the piece and the buffers

-- only an intermediary forwards
pub forwards_role : (op : Opening) (t : ℕ) → forwards op t ≡ true → op.role ≡ Intermediary
unfolding forwards forwards_by
forwards_role op t e = go op.role refl e
  where
    go : (r : Role) → op.role ≡ r → forwards_by r (kind_of op t) ≡ true → op.role ≡ Intermediary
    go Endpoint h e = no_true e
    go Intermediary h e = h

-- only what is within the limit is stored, and all of it
pub gathers_limit : (op : Opening) (t n : ℕ) → gathers op t n ≡ true → (extent_of op t n ≡ n) × (n ≤ op.limit)
unfolding gathers extent_of
gathers_limit op t n e = go (kind_of op t) e
  where
    go : (k : Kind) → gathers_by k op.limit n ≡ true → (extent_by k n ≡ n) × (n ≤ op.limit)
    go Datagram e = unfold gathers_by extent_by in (refl, leb-true n op.limit e)
    go Address e = unfold gathers_by in no_true e
    go Unknown e = unfold gathers_by in no_true e

pub keeps_limit : (op : Opening) (t n : ℕ) → keeps op t n ≡ true → (extent_of op t n ≡ n) × (n ≤ longest_address_value)
unfolding keeps extent_of
keeps_limit op t n e = go (kind_of op t) e
  where
    go : (k : Kind) → keeps_by k n ≡ true → (extent_by k n ≡ n) × (n ≤ longest_address_value)
    go Datagram e = unfold keeps_by in no_true e
    go Address e = unfold keeps_by extent_by in (rw e, leb-true n longest_address_value e)
    go Unknown e = unfold keeps_by in no_true e

-- only for endpoints that opted in
pub keeps-opted : (op : Opening) (t n : ℕ) → keeps op t n ≡ true → opted op ≡ true
unfolding keeps keeps_by kind_of
keeps-opted op t n e = go (opted op) refl
  where
    datagram : Bool
    datagram = eqb t 0 || (op.draft && eqb t 0xff37a5)

    go : (o : Bool) → opted op ≡ o → opted op ≡ true
    go true h = h
    go false h = no_true (unfold keeps kind_of in neither datagram (rw h at e))
      where
        neither : (d : Bool) → keeps_by (cond d Datagram Unknown) n ≡ true → false ≡ true
        neither true f = unfold keeps_by in f
        neither false f = unfold keeps_by in f

-- no more value bytes are waited for than there are
pub extent_most : (op : Opening) (t n : ℕ) → extent_of op t n ≤ n
unfolding extent_of
extent_most op t n = go (kind_of op t)
  where
    go : (k : Kind) → extent_by k n ≤ n
    go Datagram = unfold extent_by in omega arith
    go Address = unfold extent_by in short (leb n longest_address_value)
      where
        short : (b : Bool) → cond b n 0 ≤ n
        short true = omega arith
        short false = omega arith
    go Unknown = unfold extent_by in omega arith

-- what moving the bytes asks of a plan
pub record Fits (op : Opening) (p : List ℕ) (plan : Plan) : Type 0 where
  pub starts : plan.at ≤ plan.consumed
  pub within : plan.consumed ≤ length p
  pub stores : plan.store ≡ true → plan.place + (plan.consumed - plan.at) ≤ op.limit
  pub keeps : plan.keep ≡ true → plan.place + (plan.consumed - plan.at) ≤ longest_address_value
  pub opts : plan.keep ≡ true → opted op ≡ true
  pub forwards : plan.forward ≡ true → op.role ≡ Intermediary

module _ (op : Opening) (p : List ℕ) where
  value-fits : (at t n left : ℕ) → at ≤ length p → left ≤ extent_of op t n → Fits op p (plan_value op p at t n left)
  value-fits at t n left h l = go (leb left (length p - at)) refl
    where
      go : (b : Bool) → leb left (length p - at) ≡ b → Fits op p (plan_value op p at t n left)
      go true e =
          let m = leb-true left (length p - at) e in
          rw (value-ends op p at t n left m) (record { starts = omega arith; within = omega arith; stores = λ s. omega (arith, gathers_limit op t n s); keeps = λ s. omega (arith, keeps_limit op t n s); opts = λ s. keeps-opted op t n s; forwards = forwards_role op t })
      go false e =
          let m = leb-false left (length p - at) e in
          rw (value_goes op p at t n left m) (record { starts = h; within = omega arith; stores = λ s. omega (arith, gathers_limit op t n s); keeps = λ s. omega (arith, keeps_limit op t n s); opts = λ s. keeps-opted op t n s; forwards = forwards_role op t })

  head_fits : (next : Phase) (consumed : ℕ) (forward : Bool) → consumed ≤ length p → (forward ≡ true → op.role ≡ Intermediary) → Fits op p (plan_head next consumed forward)
  unfolding plan_head
  head_fits next consumed forward h f = record { starts = omega arith; within = h; stores = λ s. no_true s; keeps = λ s. no_true s; opts = λ s. no_true s; forwards = f }

  length-fits : (at t : ℕ) (part : Partial) → at ≤ length p → Fits op p (plan_length op p at t part)
  length-fits at t part h = go (take_varint part (drop at p)) refl
    where
      go : (r : VarintTaken) → take_varint part (drop at p) ≡ r → Fits op p (plan_length op p at t part)
      go Impossible e = rw (length_impossible op p at t part e) (head_fits (InLength t part) 0 false (omega arith) (λ f. no_true f))
      go (More q) e = rw (length_more op p at t part q e) (head_fits (InLength t q) (length p) (forwards op t) (omega arith) (forwards_role op t))
      go (Ends used n) e =
          rw (length-ends op p at t part used n e)
          (value-fits (at + used) t n (extent_of op t n) (omega (arith, ends-within part (drop at p) used n e, length-drop at p)) (omega arith))

  type_fits : (part : Partial) → Fits op p (plan_type op p part)
  type_fits part = go (take_varint part p) refl
    where
      go : (r : VarintTaken) → take_varint part p ≡ r → Fits op p (plan_type op p part)
      go Impossible e = rw (type_impossible op p part e) (head_fits (InType part) 0 false (omega arith) (λ f. no_true f))
      go (More q) e = rw (type_more op p part q e) (head_fits (InType q) (length p) false (omega arith) (λ f. no_true f))
      go (Ends used t) e = rw (type_ends op p part used t e) (length-fits used t no_bytes (ends-within part p used t e))

-- of a value that some stream comes to, no more is to come than it has
pub makeable_value : (op : Opening) (t n left : ℕ) → is_makeable_phase op (InValue t n left) ≡ true → left ≤ extent_of op t n
unfolding is_makeable_phase
makeable_value op t n left e =
    let m = extent_of op t n in
    let a = parted (leb t largest) (leb n largest && (ltb 0 left && leb left m)) e in
    let b = parted (leb n largest) (ltb 0 left && leb left m) a.1 in
    leb-true left m (parted (ltb 0 left) (leb left m) b.1).1

pub plan-fits : (op : Opening) (p : List ℕ) (phase : Phase) → is_makeable_phase op phase ≡ true → Fits op p (plan_of op p phase)
unfolding plan_of
plan-fits op p (InType part) e = type_fits op p part
plan-fits op p (InLength t part) e = length-fits op p 0 t part (omega arith)
plan-fits op p (InValue t n left) e = value-fits op p 0 t n left (omega arith) (makeable_value op t n left e)

-- at most 7 bytes of a type are held
pub held_few : (op : Opening) (phase : Phase) → is_makeable_phase op phase ≡ true → (held_of phase).have ≤ 7
unfolding held_of is_makeable_phase is_partial
held_few op (InType part) e = starts_le part.have part.raw e
held_few op (InLength t part) e = omega arith
held_few op (InValue t n left) e = omega arith
