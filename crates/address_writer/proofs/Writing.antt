-- A value written as a capsule. Assumes nothing.
use Rattle.std.specs.Prelude.{Result, Ok, Err}
use Rattle.refusals.specs.declared.Refusal.{Refusal}
use Rattle.walks.proofs.Words.{◌≡◌, refl, sym, ap, ◌∙◌, ℕ, ◌+◌, ◌≤◌, ◌<◌, arith, Bool, true, false, List, [], ◌∷◌, ◌++◌, length, take, drop, length-append, set, length-set, sets, length-sets, sets-eq, take_at, take-length, leb, le-leb, lt-leb, leb-true, leb-false, length-take-le, cond, ◌&&◌, ◌⊎◌, ⊎_elim, inl, inr, ◌%◌, eq-eqb, ne_eqb}
use Rattle.address_writer.proofs.Terms.{output_too_short, number_too_large, malformed_to_write, largest, least_size, encode, writing, refuses, write_at, write_varint, length-encode, copying, copy, copied, longest_address_value, all_of, well_formed, is_whole, entries_in, id_fits, capsule_of, write_value, write_addresses, write_routes, Put, Gathered, value_in, put_then, put_number}

pub long_malformed : (t : ℕ) (v : List ℕ) → 1024 < length v → well_formed t v ≡ false
unfolding well_formed longest_address_value
long_malformed t v h = rw (lt-leb (length v) 1024 h)

pub formed_short : (t : ℕ) (v : List ℕ) → well_formed t v ≡ true → length v ≤ 1024
formed_short t v e = go (leb (length v) 1024) refl
  where
    go : (b : Bool) → leb (length v) 1024 ≡ b → length v ≤ 1024
    go true d = leb-true (length v) 1024 d
    go false d = let f : well_formed t v ≡ false = unfold well_formed longest_address_value in rw d in let z : ◌≡◌ {A = ℕ} 0 1 = cc in absurd (let n : ⊥ = omega arith in n)

pub formed_largest : (t : ℕ) (v : List ℕ) → well_formed t v ≡ true → length v ≤ largest
unfolding largest
formed_largest t v e = omega (arith, formed_short t v e)

pub put_span : (v out : List ℕ) (at : ℕ) (done : Bool) (after : List ℕ) → at + length v ≤ length out → copying done after ≡ copy v 0 out at (length v) → Put v out at after (at + length v)
put_span v out at done after h c = record {
  stored = copied v 0 out at (length v) done after c (omega arith) h ∙ ap (sets out at) (take-length v);
  next = refl;
}

module _ (t : ℕ) (v out : List ℕ) (place : ℕ) where
  pub malformed : (whole : Bool) → (whole ≡ false) ⊎ (well_formed t v ≡ false) → writing (Err malformed_to_write) out ≡ write_value whole t v out place
  unfolding write_value refuses
  malformed whole e = ⊎_elim (λ f. rw f) (λ f. go whole f) e
    where
      go : (w : Bool) → well_formed t v ≡ false → writing (Err malformed_to_write) out ≡ cond (w && well_formed t v) (write_at (capsule_of t v) out place) (refuses malformed_to_write out)
      go true f = rw f
      go false f = refl

  written : well_formed t v ≡ true → write_at (capsule_of t v) out place ≡ write_value true t v out place
  unfolding write_value
  written e = rw e

  module _ (g : well_formed t v ≡ true) (head : ℕ) (is_head : head ≡ least_size (length v)) where
    total : 1 + head + length v ≡ length (capsule_of t v)
    unfolding capsule_of
    total = omega (arith, length-append (encode (length v)) v, length-encode (length v))

    pub short : length out < place + (1 + head + length v) → writing (Err output_too_short) out ≡ write_value true t v out place
    short l = at-short ∙ written g
      where
        at-short : writing (Err output_too_short) out ≡ write_at (capsule_of t v) out place
        at-short = (unfold write_at refuses in rw (lt-leb (place + length (capsule_of t v)) (length out) (omega (arith, total))))

    wrote : {z : List ℕ} → place + (1 + head + length v) ≤ length out → z ≡ sets out place (t ∷ (encode (length v) ++ v)) → writing (Ok (1 + head + length v)) z ≡ write_value true t v out place
    unfolding write_at capsule_of
    wrote {z} l e =
        let a : writing (Ok (1 + head + length v)) z ≡ write_at (capsule_of t v) out place = rw (le-leb (place + length (capsule_of t v)) (length out) (omega (arith, total)), e, total) in
        a ∙ written g

    -- the type, the length and the value, put one after another
    pub fits : place + (1 + head + length v) ≤ length out → {y z : List ℕ} {w : (Result ℕ Refusal)} {d : Bool}
        → writing w y ≡ write_varint (length v) (set out place t) (place + 1) → copying d z ≡ copy v 0 y (place + (1 + head)) (length v)
        → writing (Ok (1 + head + length v)) z ≡ write_value true t v out place
    fits l {y} {z} {w} {d} e f =
        let n : ℕ = length v in
        let m : place + (1 + head) ≡ place + 1 + head = omega arith in
        let p : Put (t ∷ []) out place (set out place t) (place + 1) = record { stored = refl; next = omega arith } in
        let room : place + 1 + least_size n ≤ length (set out place t) = simp length-set (omega arith) in
        let q : Put (encode n) (set out place t) (place + 1) y (place + 1 + head) = put_number n (set out place t) (place + 1) (formed_largest t v g) room w y head e is_head in
        let k : place + 1 + head + n ≤ length y = omega (arith, simp (length-sets, length-set) at (ap length q.stored)) in
        let r : Put v y (place + 1 + head) z (place + 1 + head + n) = put_span v y (place + 1 + head) d z k (rw m at f) in
        wrote l (put_then p (put_then q r)).stored

-- ---- the value put together

-- a part of a value that is too long is so itself
pub gathered : {v before after : List ℕ} {n : ℕ} → Gathered v before after n → 1024 ≤ length before → n ≤ length after
    → (whole : Bool) (t : ℕ) (out : List ℕ) (place : ℕ) → write_value whole t (take n after) out place ≡ write_value whole t v out place
gathered {v} {before} {after} {n} g l h whole t out place = go (leb n 1024) refl
  where
    go : (b : Bool) → leb n 1024 ≡ b → write_value whole t (take n after) out place ≡ write_value whole t v out place
    go true e =
        let p = g.whole (leb-true n 1024 e) in
        let m : 0 + length v ≤ length before = omega (arith, p.next, leb-true n 1024 e) in
        let s : after ≡ v ++ drop (0 + length v) before = p.stored ∙ sets-eq v before 0 m in
        let f : take n after ≡ v = ap (take n) s ∙ take_at v (drop (0 + length v) before) n (omega (arith, p.next)) in
        rw f
    go false e =
        let k : 1024 < n = leb-false n 1024 e in
        let m : length (take n after) ≡ n = length-take-le n after h in
        let p = long_malformed t (take n after) (omega arith) in
        let q = long_malformed t v (g.long k) in
        sym (malformed t (take n after) out place whole (inr p)) ∙ malformed t v out place whole (inr q)

-- ---- a row with surplus bytes, or with none

module _ (size : ℕ) (row : List ℕ) where
  pub surplus : (length row % size ≡ 0 → ⊥) → (t : ℕ) (v out : List ℕ) (place : ℕ) → writing (Err malformed_to_write) out ≡ write_value (is_whole size row) t v out place
  surplus n t v out place = malformed t v out place (is_whole size row) (inl ((unfold is_whole in ne_eqb (length row % size) 0 n)))

  pub whole_row : length row % size ≡ 0 → (t : ℕ) (v out : List ℕ) (place : ℕ) → write_value true t v out place ≡ write_value (is_whole size row) t v out place
  unfolding is_whole
  whole_row w t v out place = rw (eq-eqb (length row % size) 0 w)

-- ---- by the type

module _ (row out : List ℕ) (place : ℕ) where
  pub large : (t : ℕ) → all_of id_fits (entries_in row) ≡ false → writing (Err number_too_large) out ≡ write_addresses t row out place
  unfolding write_addresses refuses
  large t e = rw e

  pub addresses : (t : ℕ) → all_of id_fits (entries_in row) ≡ true → write_value (is_whole 32 row) t (value_in false row) out place ≡ write_addresses t row out place
  unfolding write_addresses value_in
  addresses t e = rw e

  pub routes : write_value (is_whole 34 row) 3 (value_in true row) out place ≡ write_routes row out place
  unfolding write_routes value_in
  routes = refl
