-- When the address writer's 6 is given, in document 02's words. Assumes nothing.
use Rattle.walks.proofs.Words.{◌≡◌, refl, sym, ap, ◌∙◌, ◌↔◌, ℕ, zero, suc, ◌+◌, ◌-◌, ◌*◌, ◌/◌, ◌^◌, ◌≤◌, ◌<◌, arith, Bool, true, false, not, true≢false, false≢true, List, length, take, drop, leb, leb-true, leb-false}
use Rattle.address_writer.proofs.Terms.{largest, all_of, little_endian, entries_in, id_fits, AddressCapsule, address_assign, address_request, route_advertisement, has_large_id, LargeId, LargeIdExactly, impossible, ids, ids_all, ids-end, ids_large, ids_on, id_fits_lem, id_at}

module _ (row : List ℕ) where
  abbrev Large : Type 0
  Large = (i : ℕ) × (i < length row / 32) × (2 ^ 62 - 1 < little_endian (take 8 (drop (32 * i) row)))

  seek : (m i : ℕ) → length row / 32 ≤ i + m → all_of id_fits (ids row i) ≡ false → Large
  seek zero i h e = absurd (true≢false (sym (ids-end row i (omega arith)) ∙ e))
  seek (suc m) i h e = go (λ f. seek m (i + 1) (omega arith) f) (leb (length row / 32) i) refl (leb (id_at row i) largest) refl
    where
      go : (all_of id_fits (ids row (i + 1)) ≡ false → Large) → (a : Bool) → leb (length row / 32) i ≡ a → (b : Bool) → leb (id_at row i) largest ≡ b → Large
      go on true a b l = absurd (true≢false (sym (ids-end row i (leb-true _ _ a)) ∙ e))
      go on false a true l = on (sym (ids_on row i (leb-false _ _ a) (leb-true _ _ l)) ∙ e)
      go on false a false l = (i, leb-false _ _ a, unfold largest in leb-false _ _ l)

  all_fit : (i : ℕ) → all_of id_fits (ids row 0) ≡ true → i < length row / 32 → all_of id_fits (ids row i) ≡ true
  all_fit zero e h = e
  all_fit (suc i) e h = ap (λ (n : ℕ). all_of id_fits (ids row n)) (let z : suc i ≡ i + 1 = omega arith in z) ∙ (id_fits_lem row i (omega arith) (all_fit i e (omega arith))).1

  found : (b : Bool) → all_of id_fits (entries_in row) ≡ b → (not b ≡ true) ↔ Large
  found true e = (λ f. absurd (false≢true f), λ l. absurd (true≢false (sym (all_fit l.0 (ids_all row ∙ e) l.1) ∙ ids_large row l.0 l.1 (unfold largest in l.2))))
  found false e = (λ f. seek (length row / 32) 0 (omega arith) (ids_all row ∙ e), λ l. refl)

  -- of a row of addresses
  large_id : (k : AddressCapsule) → (k ≡ route_advertisement → ◌≡◌ {A = ℕ} 0 1) → (not (all_of id_fits (entries_in row)) ≡ true) ↔ LargeId k row
  large_id k n = let f = found (all_of id_fits (entries_in row)) refl in (λ e. (λ z. impossible (n z), f.0 e), λ l. f.1 l.1)

pub large_id_exactly : LargeIdExactly
unfolding has_large_id
large_id_exactly address_assign row = large_id row address_assign (λ z. cc)
large_id_exactly address_request row = large_id row address_request (λ z. cc)
large_id_exactly route_advertisement row = (λ e. absurd (false≢true e), λ l. absurd (l.0 refl))
