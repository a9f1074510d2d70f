-- A type of one byte, a shortest length and that many bytes are, by the grammar, one complete capsule. Assumes nothing.
use Rattle.std.specs.Prelude.{Some}
use Rattle.short_forms.specs.Short.{varint_of}
use Rattle.walks.proofs.Words.{◌≡◌, sym, ap, ◌∙◌, subst, ℕ, ◌+◌, ◌≤◌, arith, one-add, List, [], ◌∷◌, ◌++◌, length, drop, length-append, drop_at}
use Rattle.capsule_laws.proofs.Terms.{largest, read_varint, least_size, encode, read_back, length-encode, encode_one, size-at, width_0, plain, in_type, whole, parts}
use Rattle.capsule_laws.proofs.Grammar.{Sees, sees_whole, parts-one}

type_read : (t : ℕ) → t ≤ 63 → (rest : List ℕ) → read_varint (t ∷ rest) ≡ Some (varint_of t 1)
type_read t h rest =
    let a : read_varint (encode t ++ rest) ≡ Some (varint_of t (least_size t)) = (read_back t (unfold largest in omega arith) rest).0 in
    let b : encode t ≡ t ∷ [] = sym (encode_one t h) in
    let c : least_size t ≡ 1 = sym (size-at t 0 (width_0 t h)) in
    subst (λ (l : List ℕ). read_varint (l ++ rest) ≡ Some (varint_of t 1)) b (a ∙ ap (λ (k : ℕ). Some (varint_of t k)) c)

module _ (t : ℕ) (v : List ℕ) where
  abbrev pub written : List ℕ
  written = t ∷ (encode (length v) ++ v)

  pub written-length : length written ≡ 1 + least_size (length v) + length v
  written-length = omega (arith, length-append (encode (length v)) v, length-encode (length v))

  module _ (h : t ≤ 63) (l : length v ≤ largest) where
    seen : Sees plain written (whole t (length v) (1 + least_size (length v)))
    seen = sees_whole (type_read t h (encode (length v) ++ v)) (read_back (length v) l v).0 (omega (arith, written-length))

    value-behind : drop (1 + least_size (length v)) written ≡ v
    value-behind = ap (λ (j : ℕ). drop j written) (one-add (least_size (length v))) ∙ drop_at (encode (length v)) v (least_size (length v)) (length-encode (length v))

    pub one_written : parts written ≡ record { capsules = record { ctype = t; size = length v; value = v; bytes = written } ∷ []; tail = []; stage = in_type }
    one_written =
        parts-one written t (length v) (1 + least_size (length v)) seen (sym written-length)
        ∙ ap (λ (x : List ℕ). record { capsules = record { ctype = t; size = length v; value = x; bytes = written } ∷ []; tail = []; stage = in_type }) value-behind
