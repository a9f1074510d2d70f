-- What the code's tests say of entries at their places. Assumes nothing.
use Rattle.walks.proofs.Words.{◌≡◌, refl, sym, Bool, true, false, cond, ◌&&◌, ℕ, ◌*◌, ◌≤◌, ◌<◌, arith, List, drop, lt-ltb, le-ltb, le-leb, lt-leb, ◌⊎◌, ⊎_elim, true≢false}
use Rattle.addresses.proofs.Terms.{entries, are_good, all_of, width_of, Entry, good_entry, asks, clear_beyond, entry_at, entry_lent, placed, EntryRead, Malformed}
use Rattle.std.specs.Prelude.{Result, Ok, Err, Option, Some, None}
use Rattle.addresses.specs.declared.Entry as lent
use Rattle.addresses.proofs.{Lists.judged-end, Lists.judged_malformed, Lists.judged-next, Reading.entry_shrinks}

module _ (e : Entry) (w : ℕ) (is_w : w ≡ width_of e.version) where
  pub entry-long : 8 * w < e.prefix → false ≡ good_entry e
  unfolding good_entry
  entry-long h = rw (← is_w, lt-leb e.prefix (8 * w) h)

  pub entry-short : e.prefix ≤ 8 * w → clear_beyond e.prefix e.address ≡ good_entry e
  unfolding good_entry
  entry-short h = rw (← is_w, le-leb e.prefix (8 * w) h)

-- of an entry that asks, or not
module _ (asking : Bool) (e : Entry) where
  pub asks_none : asking ≡ true → e.id ≡ 0 → cond asking asks good_entry e ≡ false
  unfolding asks
  asks_none y z = rw (y, le-ltb 0 e.id (omega arith))

  pub asks_some : (asking ≡ false) ⊎ (e.id ≡ 0 → ⊥) → cond asking asks good_entry e ≡ good_entry e
  asks_some f = go asking f
    where
      go : (a : Bool) → (a ≡ false) ⊎ (e.id ≡ 0 → ⊥) → cond a asks good_entry e ≡ good_entry e
      go false f = refl
      go true f = ⊎_elim (λ z. absurd (true≢false z)) (λ n. some_id (omega (arith, n))) f
        where
          some_id : 0 < e.id → asks e ≡ good_entry e
          some_id h = unfold asks in rw (lt-ltb 0 e.id h)

-- a turn of the loop over a value's entries, by what is found
module _ (good : Entry → Bool) (v : List ℕ) (at : ℕ) where
  abbrev judged : ℕ → Bool
  judged i = are_good (all_of good) (entries entry_at (drop i v))

  abbrev pub Turn : Result (Option lent.Entry) Malformed → Type 0
  Turn (Ok None) = true ≡ judged at
  Turn (Err m) = false ≡ judged at
  Turn (Ok (Some e)) = good (entry_lent e) && judged e.next ≡ judged at

  pub turn : (r : Result (Option lent.Entry) Malformed) → EntryRead (entry_at (drop at v)) v at r → Turn r
  unfolding placed all_of
  turn (Ok None) h = sym (judged-end entry_at entry_shrinks (all_of good) (drop at v) (sym h.reads))
  turn (Err m) h = sym (judged_malformed entry_at entry_shrinks (all_of good) (drop at v) (sym h.reads))
  turn (Ok (Some e)) h = sym (judged-next entry_at entry_shrinks (all_of good) (drop at v) (drop e.next v) (entry_lent e) (good (entry_lent e)) (all_of good) (λ es. refl) (sym h.reads))
