-- The stored form of a reader (specs/Claims.antt). Assumes nothing.
use Rattle.std.specs.Prelude.{Option, Some, None}
use Rattle.walks.proofs.Words.{ℕ, ◌+◌, ◌*◌, ◌%◌, ◌≤◌, ◌≡◌, refl, sym, Bool, true, false, cond, not, ◌&&◌, List, [], ◌∷◌, arith, get_or, leb, ltb, eqb, le-leb, leb-true, leb-false, ltb-true, ltb-false, eqb-true, eqb-false}
use Rattle.reader_words.proofs.Terms.{partial, parted, Role, Endpoint, Intermediary, Phase, InType, InLength, InValue, Reader, zero_one, flag_of, bit_of, reader_mark, role_word, role_in, settings_number, draft_in, addresses_in, phase_words, words_of, phase_in, with_phase, reader_in, HaveIsByte, StoredRead, ReadAsStored}

-- ---- numbers there and back

role_back : (role : Role) → ((leb reader_mark (role_word role) && leb (role_word role) (reader_mark + 1)) ≡ true) × (role_in (role_word role) ≡ role)
unfolding role_word role_in reader_mark
role_back Endpoint = (refl, refl)
role_back Intermediary = (refl, refl)

bit_back : (b : Bool) → (leb (bit_of b) 1 ≡ true) × (flag_of (bit_of b) ≡ b)
unfolding bit_of flag_of
bit_back true = (refl, refl)
bit_back false = (refl, refl)

role_there : (n : ℕ) → leb reader_mark n ≡ true → leb n (reader_mark + 1) ≡ true → role_word (role_in n) ≡ n
unfolding role_word role_in
role_there n low high = go (leb n reader_mark) refl
  where
    go : (t : Bool) → leb n reader_mark ≡ t → role_word (cond t Endpoint Intermediary) ≡ n
    go true e = omega (arith, leb-true reader_mark n low, leb-true n reader_mark e)
    go false e = omega (arith, leb-true n (reader_mark + 1) high, leb-false n reader_mark e)

bit_there : (n : ℕ) → leb n 1 ≡ true → bit_of (flag_of n) ≡ n
unfolding bit_of flag_of
bit_there n small = go (eqb n 0) refl
  where
    go : (t : Bool) → eqb n 0 ≡ t → cond (not t) 1 0 ≡ n
    go true e = sym (eqb-true n 0 e)
    go false e = omega (arith, leb-true n 1 small, eqb-false n 0 e)

settings_back : (draft addresses : Bool) → let n = settings_number draft addresses in (leb n 3 ≡ true) × (draft_in n ≡ draft) × (addresses_in n ≡ addresses)
unfolding settings_number bit_of draft_in addresses_in
settings_back true true = (refl, refl, refl)
settings_back true false = (refl, refl, refl)
settings_back false true = (refl, refl, refl)
settings_back false false = (refl, refl, refl)

settings_there : (n : ℕ) → leb n 3 ≡ true → settings_number (draft_in n) (addresses_in n) ≡ n
unfolding settings_number bit_of draft_in addresses_in
settings_there n small = go (eqb (n % 2) 1) (ltb 1 n) refl refl
  where
    go : (d a : Bool) → eqb (n % 2) 1 ≡ d → ltb 1 n ≡ a → cond d 1 0 + 2 * cond a 1 0 ≡ n
    go true true e f = omega (arith, leb-true n 3 small, eqb-true (n % 2) 1 e, ltb-true 1 n f)
    go true false e f = omega (arith, leb-true n 3 small, eqb-true (n % 2) 1 e, ltb-false 1 n f)
    go false true e f = omega (arith, leb-true n 3 small, eqb-false (n % 2) 1 e, ltb-true 1 n f)
    go false false e f = omega (arith, leb-true n 3 small, eqb-false (n % 2) 1 e, ltb-false 1 n f)

-- ---- the four tests of words

module _ (ws : List ℕ) where
  pub reads_so : reader_mark ≤ get_or ws 0 0 → get_or ws 0 0 ≤ reader_mark + 1 → get_or ws 2 0 ≤ 3 → get_or ws 7 0 ≤ 1
      → (x : Option Reader) → x ≡ with_phase (get_or ws 0 0) (get_or ws 1 0) (get_or ws 2 0) (get_or ws 7 0) (phase_in (get_or ws 3 0) (get_or ws 4 0) (get_or ws 5 0) (get_or ws 6 0)) → x ≡ reader_in ws
  unfolding reader_in
  reads_so low high settings mark x e = rw (le-leb reader_mark (get_or ws 0 0) low, le-leb (get_or ws 0 0) (reader_mark + 1) high, le-leb (get_or ws 2 0) 3 settings, le-leb (get_or ws 7 0) 1 mark) e

  pub reads_not : (reader_mark ≤ get_or ws 0 0 → get_or ws 0 0 ≤ reader_mark + 1 → get_or ws 2 0 ≤ 3 → get_or ws 7 0 ≤ 1 → ⊥) → None ≡ reader_in ws
  unfolding reader_in
  reads_not n = go (leb reader_mark (get_or ws 0 0)) (leb (get_or ws 0 0) (reader_mark + 1)) (leb (get_or ws 2 0) 3) (leb (get_or ws 7 0) 1) refl refl refl refl
    where
      go : (tl th ts tm : Bool) → leb reader_mark (get_or ws 0 0) ≡ tl → leb (get_or ws 0 0) (reader_mark + 1) ≡ th → leb (get_or ws 2 0) 3 ≡ ts → leb (get_or ws 7 0) 1 ≡ tm
          → None ≡ cond ((tl && th) && (ts && tm)) (with_phase (get_or ws 0 0) (get_or ws 1 0) (get_or ws 2 0) (get_or ws 7 0) (phase_in (get_or ws 3 0) (get_or ws 4 0) (get_or ws 5 0) (get_or ws 6 0))) None
      go true true true true l h s m = absurd (n (leb-true reader_mark (get_or ws 0 0) l) (leb-true (get_or ws 0 0) (reader_mark + 1) h) (leb-true (get_or ws 2 0) 3 s) (leb-true (get_or ws 7 0) 1 m))
      go true true true false l h s m = refl
      go true true false tm l h s m = refl
      go true false ts tm l h s m = refl
      go false th ts tm l h s m = refl

-- ---- what was stored is read back

record Stored (x : Phase) : Type 0 where
  kind : ℕ
  first : ℕ
  second : ℕ
  third : ℕ
  words : phase_words x ≡ kind ∷ first ∷ second ∷ third ∷ []
  back : phase_in kind first second third ≡ Some x

phase-back : (x : Phase) → HaveIsByte x → Stored x
unfolding phase_words phase_in
phase-back (InType part) h = record { kind = 0; first = part.have; second = part.raw; third = 0; words = refl; back = rw (le-leb part.have 255 h) }
phase-back (InLength t part) h = record { kind = 1; first = t; second = part.have; third = part.raw; words = refl; back = rw (le-leb part.have 255 h) }
phase-back (InValue t n left) h = record { kind = 2; first = t; second = n; third = left; words = refl; back = refl }

pub stored-read : StoredRead
unfolding words_of reader_in with_phase
stored-read r byte =
    let q = phase-back r.phase byte in
    let s = settings_back r.opening.draft r.opening.addresses in
    let role = role_back r.opening.role in
    let bit = bit_back r.finished in
    rw (q.words, role.0, s.0, bit.0, q.back, role.1, s.1, s.2, bit.1)

-- ---- nothing else is read as that reader

module _ (k a b c : ℕ) (p : Phase) where
  -- the tests of a phase, one by one
  phase_tests : (t0 t1 t2 t_type t_length : Bool) → eqb k 0 ≡ t0 → eqb k 1 ≡ t1 → eqb k 2 ≡ t2 → (leb a 255 && eqb c 0) ≡ t_type
      → cond t0 (cond t_type (Some (InType (partial a b))) None) (cond t1 (cond t_length (Some (InLength a (partial b c))) None) (cond t2 (Some (InValue a b c)) None)) ≡ Some p
      → phase_words p ≡ k ∷ a ∷ b ∷ c ∷ []
  unfolding phase_words
  phase_tests true t1 t2 true t_length e0 e1 e2 e_type h =
      let d : InType (partial a b) ≡ p = cc in
      rw (← d, eqb-true k 0 e0, eqb-true c 0 (parted (leb a 255) (eqb c 0) e_type).1)
  phase_tests true t1 t2 false t_length e0 e1 e2 e_type h = zero_one (cc)
  phase_tests false true t2 t_type true e0 e1 e2 e_type h =
      let d : InLength a (partial b c) ≡ p = cc in
      rw (← d, eqb-true k 1 e1)
  phase_tests false true t2 t_type false e0 e1 e2 e_type h = zero_one (cc)
  phase_tests false false true t_type t_length e0 e1 e2 e_type h =
      let d : InValue a b c ≡ p = cc in
      rw (← d, eqb-true k 2 e2)
  phase_tests false false false t_type t_length e0 e1 e2 e_type h = zero_one (cc)

  phase-stored : phase_in k a b c ≡ Some p → phase_words p ≡ k ∷ a ∷ b ∷ c ∷ []
  unfolding phase_in
  phase-stored h = phase_tests (eqb k 0) (eqb k 1) (eqb k 2) (leb a 255 && eqb c 0) (leb b 255) refl refl refl refl h

-- what is read has passed the tests
tested : {r : Reader} (t : Bool) (x : Option Reader) → cond t x None ≡ Some r → (t ≡ true) × (x ≡ Some r)
tested true x h = (refl, h)
tested false x h = zero_one (cc)

module _ (a0 a1 a2 a3 a4 a5 a6 a7 : ℕ) (r : Reader) where
  abbrev ws : List ℕ
  ws = a0 ∷ a1 ∷ a2 ∷ a3 ∷ a4 ∷ a5 ∷ a6 ∷ a7 ∷ []

  with_stored : leb reader_mark a0 ≡ true → leb a0 (reader_mark + 1) ≡ true → leb a2 3 ≡ true → leb a7 1 ≡ true → (x : Option Phase) → phase_in a3 a4 a5 a6 ≡ x → with_phase a0 a1 a2 a7 x ≡ Some r → words_of r ≡ ws
  unfolding with_phase words_of
  with_stored l0 h0 s2 s7 None e h = zero_one (cc)
  with_stored l0 h0 s2 s7 (Some p) e h =
      let d : record { opening = record { role = role_in a0; limit = a1; draft = draft_in a2; addresses = addresses_in a2 }; phase = p; finished = flag_of a7 } ≡ r = cc in
      rw (← d, role_there a0 l0 h0, settings_there a2 s2, bit_there a7 s7, phase-stored a3 a4 a5 a6 p e)

  eight_stored : reader_in ws ≡ Some r → words_of r ≡ ws
  unfolding reader_in
  eight_stored h =
      let t = tested _ _ h in
      let u = parted (leb reader_mark a0 && leb a0 (reader_mark + 1)) (leb a2 3 && leb a7 1) t.0 in
      let role = parted (leb reader_mark a0) (leb a0 (reader_mark + 1)) u.0 in
      let small = parted (leb a2 3) (leb a7 1) u.1 in
      with_stored role.0 role.1 small.0 small.1 (phase_in a3 a4 a5 a6) refl t.1

pub read_as_stored : ReadAsStored
read_as_stored (a ∷ b ∷ c ∷ d ∷ e ∷ f ∷ g ∷ h ∷ []) r l x = eight_stored a b c d e f g h r x
read_as_stored (a ∷ b ∷ c ∷ d ∷ e ∷ f ∷ g ∷ h ∷ i ∷ ws) r l x = absurd (omega arith)
read_as_stored (a ∷ b ∷ c ∷ d ∷ e ∷ f ∷ g ∷ []) r l x = absurd (omega arith)
read_as_stored (a ∷ b ∷ c ∷ d ∷ e ∷ f ∷ []) r l x = absurd (omega arith)
read_as_stored (a ∷ b ∷ c ∷ d ∷ e ∷ []) r l x = absurd (omega arith)
read_as_stored (a ∷ b ∷ c ∷ d ∷ []) r l x = absurd (omega arith)
read_as_stored (a ∷ b ∷ c ∷ []) r l x = absurd (omega arith)
read_as_stored (a ∷ b ∷ []) r l x = absurd (omega arith)
read_as_stored (a ∷ []) r l x = absurd (omega arith)
read_as_stored [] r l x = absurd (omega arith)
