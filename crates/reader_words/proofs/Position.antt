-- Where an open reader is (specs/Claims.antt). Assumes nothing.
use Rattle.std.specs.Prelude.{Some}
use Rattle.walks.proofs.Words.{ℕ, ◌+◌, ◌≤◌, ◌≡◌, refl, sym, subst, Bool, true, false, cond, List, arith, get_or, eqb, le-leb, leb-true, eqb-true}
use Rattle.reader_words.proofs.Terms.{fresh, in_value, parted, Position, Other, Between, Within, flag_of, reader_mark, phase_in, with_phase, reader_in, opening_in, is_open_in, is_between_in, position_of, ReadAt, PositionRead}
use Rattle.reader_words.proofs.StoredForm.{reads_so}

module _ (ws : List ℕ) where
  abbrev IfOpen : Type 0 → Type 0
  IfOpen X = reader_mark ≤ get_or ws 0 0 → get_or ws 0 0 ≤ reader_mark + 1 → get_or ws 2 0 ≤ 1 → get_or ws 7 0 ≡ 0 → X

  abbrev IfWithin : Type 0 → Type 0
  IfWithin X = IfOpen (get_or ws 3 0 ≡ 2 → X)

  abbrev IfBetween : Type 0 → Type 0
  IfBetween X = IfOpen (get_or ws 3 0 ≡ 0 → get_or ws 4 0 ≡ 0 → get_or ws 5 0 ≡ 0 → get_or ws 6 0 ≡ 0 → X)

  -- by the tests that were passed
  by_position : (P : Position → Type 0) → P Other → IfWithin (P Within) → IfBetween (P Between) → P (position_of ws)
  unfolding position_of is_open_in is_between_in
  by_position P other within between = go (is_open_in ws) (eqb (get_or ws 3 0) 2) (is_between_in ws) refl refl refl
    where
      go : (o k z : Bool) → is_open_in ws ≡ o → eqb (get_or ws 3 0) 2 ≡ k → is_between_in ws ≡ z → P (cond o (cond k Within (cond z Between Other)) Other)
      go true true z e f g =
          let t = parted _ _ e in
          let m = parted _ _ t.0 in
          let s = parted _ _ t.1 in
          within (leb-true _ _ m.0) (leb-true _ _ m.1) (leb-true _ _ s.0) (eqb-true _ _ s.1) (eqb-true _ _ f)
      go true false true e f g =
          let t = parted _ _ e in
          let m = parted _ _ t.0 in
          let s = parted _ _ t.1 in
          let u = parted _ _ g in
          let a = parted _ _ u.0 in
          let b = parted _ _ u.1 in
          between (leb-true _ _ m.0) (leb-true _ _ m.1) (leb-true _ _ s.0) (eqb-true _ _ s.1) (eqb-true _ _ a.0) (eqb-true _ _ a.1) (eqb-true _ _ b.0) (eqb-true _ _ b.1)
      go true false false e f g = other
      go false k z e f g = other

  pub is_other : IfWithin ⊥ → IfBetween ⊥ → Other ≡ position_of ws
  is_other n m = by_position (λ x. Other ≡ x) refl (λ l h s f k. absurd (n l h s f k)) (λ l h s f k a b c. absurd (m l h s f k a b c))

  pub is_within : IfWithin (Within ≡ position_of ws)
  unfolding position_of is_open_in
  is_within l h s f k = rw (le-leb reader_mark (get_or ws 0 0) l, le-leb (get_or ws 0 0) (reader_mark + 1) h, le-leb (get_or ws 2 0) 1 s, f, k)

  pub is_between : IfBetween (Between ≡ position_of ws)
  unfolding position_of is_open_in is_between_in
  is_between l h s f k a b c = rw (le-leb reader_mark (get_or ws 0 0) l, le-leb (get_or ws 0 0) (reader_mark + 1) h, le-leb (get_or ws 2 0) 1 s, f, k, a, b, c)

pub position_read : PositionRead
unfolding ReadAt with_phase phase_in opening_in flag_of
position_read ws =
    by_position ws (ReadAt ws) tt
    (λ l h s f k. sym (reads_so ws l h (omega arith) (omega arith) (Some (in_value (opening_in ws) (get_or ws 4 0) (get_or ws 5 0) (get_or ws 6 0))) (rw (f, k))))
    (λ l h s f k a b c. sym (reads_so ws l h (omega arith) (omega arith) (Some (fresh (opening_in ws))) (rw (f, k, a, b, c))))

pub between_reads : (ws : List ℕ) → Between ≡ position_of ws → reader_in ws ≡ Some (fresh (opening_in ws))
unfolding ReadAt
between_reads ws e = subst (ReadAt ws) (sym e) (position_read ws)

pub within_reads : (ws : List ℕ) → Within ≡ position_of ws → reader_in ws ≡ Some (in_value (opening_in ws) (get_or ws 4 0) (get_or ws 5 0) (get_or ws 6 0))
unfolding ReadAt
within_reads ws e = subst (ReadAt ws) (sym e) (position_read ws)
