-- Bytes to come: the type and the length at the front of a tail stay whatever follows, so that only the number of the bytes that follow decides.
use Rattle.std.specs.Prelude.{Some, Ok, Err}
use Rattle.short_forms.specs.Short.{varint_of}
use Rattle.walks.proofs.Words.{◌≡◌, refl, sym, ap, ◌∙◌, ℕ, ◌+◌, ◌-◌, ◌<◌, arith, Bool, true, false, cond, List, ◌++◌, length, drop, length-append, eqb}
use Rattle.look.proofs.Terms.{unmakeable_state, read_varint, partial_of, Opening, Reader, Stage, in_value, part, Parts, extent_of, parts_for, phase_at, phase_of, reader_of, is_makeable, zero_one, sees_type, sees_length, sees_value, sees_whole, head_stays, one, Shows, tail_shows, parts_goes, parts-ends, Buffer, Between, InType, InValue, Sight, place_of, sight_of, look_of, Completes, ToComeCompletes}

-- a type, a length and a part of the value
module _ (op : Opening) (s : List ℕ) (t n j k : ℕ) where
  abbrev r : List ℕ
  r = (parts_for op s).tail

  abbrev end : ℕ
  end = j + k + extent_of op t n

  waits : read_varint r ≡ Some (varint_of t j) → read_varint (drop j r) ≡ Some (varint_of n k) → length r < end → Completes op s t n (end - length r)
  waits e d h = record {
    some_byte = omega arith;
    none_by_fewer = λ x l.
        let f = head_stays r e d x in
        ap (λ (p : Parts). p.capsules) (parts_goes op s x (in_value t n (j + k)) (sees_value f.0 f.1 (omega (arith, length-append r x))));
    one_by_all = λ x l.
        let f = head_stays r e d x in
        let a : length (r ++ x) ≡ end = omega (arith, length-append r x) in
        (one t n (j + k) (r ++ x), refl, refl, parts-ends op s x t n (j + k) (sees_whole f.0 f.1 (omega arith)) (sym a));
  }

-- no other stage is told as a value
told : (op : Opening) (s : List ℕ) (t n left gathered : ℕ) (b : Buffer) (x : Stage)
    → Shows op (parts_for op s).tail (part x)
    → place_of op (phase_at op (parts_for op s).tail x) ≡ InValue t n left gathered b
    → Completes op s t n left
unfolding place_of phase_at
told op s t n left gathered b x (sees_type e) q = no_value (eqb (partial_of (parts_for op s).tail).have 0) q
  where
    no_value : (c : Bool) → cond c Between InType ≡ InValue t n left gathered b → Completes op s t n left
    no_value true q = zero_one (cc q)
    no_value false q = zero_one (cc q)
told op s t n left gathered b x (sees_length e d) q = zero_one (cc q)
told op s t n left gathered b x (sees_value {t = t'} {j = j} {n = n'} {k = k} e d h) q =
    let a : t' ≡ t = cc in
    let c : n' ≡ n = cc in
    let l : j + k + extent_of op t' n' - length (parts_for op s).tail ≡ left = cc in
    rw (← a, ← c, ← l) (waits op s t' n' j k e d h)

sight_is : (r : Reader) (sight : Sight) → look_of r ≡ Ok sight → sight_of r ≡ sight
unfolding look_of
sight_is r sight = go (is_makeable r)
  where
    go : (m : Bool) → cond m (Ok (sight_of r)) (Err unmakeable_state) ≡ Ok sight → sight_of r ≡ sight
    go true e = cc e
    go false e = zero_one (cc e)

pub to_come_completes : ToComeCompletes
unfolding sight_of reader_of phase_of
to_come_completes op s mark sight t n left gathered b e q =
    told op s t n left gathered b (parts_for op s).stage (tail_shows op s) (ap (λ (v : Sight). v.place) (sight_is (reader_of op s mark) sight e) ∙ q)
