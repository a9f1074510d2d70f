-- Calls that go on where the one before ended hand out a value's entries. Assumes nothing.
use Rattle.walks.proofs.Words.{◌≡◌, refl, sym, ap, ◌∙◌, option_map, ℕ, zero, suc, ◌+◌, ◌-◌, ◌<◌, arith, List, [], ◌∷◌, ◌++◌, map, length, take, drop, length-drop, length-append, drop-drop, drop-append_seam}
use Rattle.address_cursor.proofs.Terms.{Cursor, Step, done, malformed, next, entries, entry_at, range_at, behind, answer_for, answer_at, collected, handed_from, address_of, next_address, range_of, next_range, HandsOut, SteppedExactly, entries-end, entries_malformed, entries_next, map-ahead, entry_front, entry_shrinks, range_front, range_shrinks}

-- the place behind an entry
seam : (v front rest : List ℕ) (at : ℕ) → length rest < length (drop at v) → drop at v ≡ front ++ rest → drop (length v - length rest) v ≡ rest
seam v front rest at h e =
    let l : length (drop at v) ≡ length front + length rest = ap length e ∙ length-append front rest in
    let m : length v - length rest ≡ at + length front = omega (arith, length-drop at v) in
    rw (m, ← (drop-drop (length front) at v), e) (drop-append_seam front rest)

module _ {A B : Type 0} (read : List ℕ → Step A) (form : A → B)
    (shrinks : (v rest : List ℕ) (e : A) → read v ≡ next e rest → length rest < length v)
    (behind-it : (v rest : List ℕ) (e : A) (at : ℕ) → read (drop at v) ≡ next e rest → drop (length v - length rest) v ≡ rest) where
  hands_out : HandsOut read form (answer_at read form)
  unfolding handed_from answer_at answer_for collected
  hands_out v c zero h = absurd (let z : ⊥ = omega arith in z)
  hands_out v c (suc calls) h = go (λ d. hands_out v d calls) (read (drop c.at v)) refl
    where
      go : ((d : Cursor) → length (drop d.at v) < calls → handed_from (answer_at read form v) calls d ≡ option_map (map form) (entries read (drop d.at v)))
          → (s : Step A) → read (drop c.at v) ≡ s → handed_from (answer_at read form v) (suc calls) c ≡ option_map (map form) (entries read (drop c.at v))
      go again done e = rw (e, entries-end read shrinks (drop c.at v) e)
      go again malformed e = rw (e, entries_malformed read shrinks (drop c.at v) e)
      go again (next a rest) e =
          let is_rest : drop (length v - length rest) v ≡ rest = behind-it v rest a c.at e in
          let k = shrinks (drop c.at v) rest a e in
          rw (e, entries_next read shrinks (drop c.at v) rest a e, again (behind v rest) (omega (arith, ap length is_rest)), is_rest) (sym (map-ahead form a (entries read rest)))

pub stepped_exactly : SteppedExactly
unfolding next_address next_range
stepped_exactly = (addresses, ranges)
  where
    addresses : HandsOut entry_at address_of (answer_at entry_at address_of)
    addresses = hands_out entry_at address_of entry_shrinks (λ v rest e at p.
        let f = entry_front (drop at v) rest e p in
        seam v (take f.size (drop at v) ++ (e.version ∷ (e.address ++ (e.prefix ∷ [])))) rest at (entry_shrinks (drop at v) rest e p) f.joins)

    ranges : HandsOut range_at range_of (answer_at range_at range_of)
    ranges = hands_out range_at range_of range_shrinks (λ v rest r at p.
        let f = range_front (drop at v) rest r p in
        seam v (r.version ∷ (f.start ++ (f.end ++ (r.protocol ∷ [])))) rest at (range_shrinks (drop at v) rest r p) f.joins)
