-- What a look says of the reader of a stream is what the grammar says of the stream: of each stage, by what stands at the tail's front.
use Rattle.std.specs.Prelude.{Some}
use Rattle.short_forms.specs.Short.{varint_of}
use Rattle.walks.proofs.Words.{◌≡◌, refl, ◌∙◌, ℕ, suc, ◌+◌, ◌-◌, ◌<◌, arith, Bool, true, false, cond, List, [], ◌∷◌, length, drop, length-drop, leb, ne_eqb}
use Rattle.look.proofs.Terms.{read_varint, partial_of, no_whole_nil, both, longest_address_value, Opening, Kind, Datagram, Address, Unknown, Stage, in_length, in_value, part, kind_of, extent_by, extent_of, parts_for, phase_at, phase_of, reader_of, is_makeable, sees_type, sees_length, sees_value, head_fits, Shows, tail_shows, made-stream, InValue, buffer_of, stored_in, place_of, sight_of, look_of, within_at, place_at, place_in, LookOfStream}

-- a value that is waited for is waited for to its length
all_waited : (op : Opening) (t n : ℕ) → 0 < extent_of op t n → extent_of op t n ≡ n
unfolding extent_of
all_waited op t n = go (kind_of op t)
  where
    long : (b : Bool) → 0 < cond b n 0 → cond b n 0 ≡ n
    long true h = refl
    long false h = absurd (let x : ⊥ = omega arith in x)

    go : (k : Kind) → 0 < extent_by k n → extent_by k n ≡ n
    go Datagram h = unfold extent_by in refl
    go Address h = unfold extent_by in long (leb n longest_address_value) (unfold extent_by in h)
    go Unknown h = unfold extent_by in refl

-- behind a type stands at least one byte
within : (op : Opening) (r : List ℕ) (x : Stage) (t j : ℕ) → read_varint r ≡ Some (varint_of t j) → within_at op r x ≡ place_at op r x
unfolding place_at
within op [] x t j e = no_whole_nil e
within op (b ∷ r) x t j e = refl

place_at_lem : (op : Opening) (r : List ℕ) (x : Stage) → Shows op r (part x) → place_of op (phase_at op r x) ≡ place_at op r x
unfolding place_of phase_at within_at
place_at_lem op [] x (sees_type e) = unfold place_at partial_of in refl
place_at_lem op (b ∷ r) x (sees_type e) = unfold place_at partial_of in rw (ne_eqb (suc (length r)) 0 (λ z. omega arith))
place_at_lem op r x (sees_length {t = t} {j = j} e d) = within op r (in_length t j) t j e
place_at_lem op r x (sees_value {t = t} {j = j} {n = n} {k = k} e d h) =
    let f = head_fits r e d in
    let m = extent_of op t n in
    let l = length-drop (j + k) r in
    let w : m ≡ n = all_waited op t n (omega arith) in
    let left : j + k + m - length r ≡ n - length (drop (j + k) r) = omega arith in
    let came : m - (j + k + m - length r) ≡ length (drop (j + k) r) = omega arith in
    (λ i. InValue t n (left i) (stored_in (buffer_of op t n) (came i)) (buffer_of op t n))
    ∙ within op r (in_value t n (j + k)) t j e

pub look_of_stream : LookOfStream
unfolding look_of sight_of reader_of is_makeable phase_of place_in
look_of_stream op s mark a w =
    rw (both _ _ a (made-stream op s w), place_at_lem op (parts_for op s).tail (parts_for op s).stage (tail_shows op s))
