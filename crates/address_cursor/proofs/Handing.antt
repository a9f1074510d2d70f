-- Entries handed out. Assumes nothing.
use Rattle.walks.proofs.Words.{◌≡◌, refl, ℕ, ◌+◌, ◌-◌, ◌≤◌, arith, false≢true, List, ◌++◌, length, get_or, take, drop, replicate, length-drop, length-take-le}
use Rattle.std.proofs.lemmas.List.{drop-replicate}
use Rattle.address_cursor.proofs.Terms.{Bytes, num, bytes_of, bytes_of-num, bytes_take, bytes_drop, Malformed, entry_at, entry_lent, placed, EntryRead, range_in, range_placed, RangeRead, Cursor, Answer, Address, AddressRange, answer_for, answer_at, padded, address_of, next_address, range_of, next_range}
use Rattle.std.specs.Prelude.{Result, Ok, Err, Option, Some, None}
use Rattle.std.specs.Result.{IsErr}
use Rattle.addresses.specs.declared.Entry as lent

-- ---- an address

module _ (v : List ℕ) (at w : ℕ) where
  pub part : take (at + w - at) (drop at v) ≡ take w (drop at v)
  part = let e : at + w - at ≡ w = omega arith in rw e

pub zeros : (a b : List ℕ) → b ≡ a → length a ≤ 16 → b ++ drop (length a) (replicate 16 0) ≡ padded a
unfolding padded
zeros a b e h = rw (e, drop-replicate {X = ℕ} (length a) 16 0)

-- what is refused is so for `?` too
pub refused : {A : Type 0} {x : Answer A} {m : Malformed} (r : Answer A) → IsErr r → Err m ≡ x → r ≡ x
refused (Ok a) h e = absurd (false≢true h)
refused (Err n) h e = e

-- ---- the answer at a place, by what is found there

module _ (v : List ℕ) (c : Cursor) where
  back : (n : ℕ) → n ≤ length v → length v - length (drop n v) ≡ n
  back n h = omega (arith, length-drop n v)

  abbrev pub HeldAddress : Result (Option lent.Entry) Malformed → Answer Address
  HeldAddress (Ok None) = Ok None
  HeldAddress (Err m) = Err m
  HeldAddress (Ok (Some e)) = Ok (Some (record { entry = record { id = e.id; version = e.version; bytes = padded e.address.now; prefix = e.prefix }; next = record { at = e.next } }))

  pub address-found : (r : Result (Option lent.Entry) Malformed) → EntryRead (entry_at (drop c.at v)) v c.at r → HeldAddress r ≡ next_address v c
  unfolding next_address answer_at answer_for placed
  address-found (Ok None) h = rw (← h.reads)
  address-found (Err m) h = rw (← h.reads)
  address-found (Ok (Some e)) h =
      let i = h.inside in
      rw (← h.reads, back e.next i.1) (unfold address_of entry_lent in refl)

  again : (w i : ℕ) → Bytes v → i + w ≤ length v → bytes_of w (num (take w (drop i v))) ≡ take w (drop i v)
  again w i b h =
      let l : length (take w (drop i v)) ≡ w = length-take-le w (drop i v) (omega (arith, length-drop i v)) in
      rw l at (bytes_of-num (take w (drop i v)) (bytes_take w (drop i v) (bytes_drop i v b)))

  abbrev pub HeldRange : Result (Option ℕ) Malformed → Answer AddressRange
  HeldRange (Ok None) = Ok None
  HeldRange (Err m) = Err m
  HeldRange (Ok (Some w)) = Ok (Some (record {
    entry = record { version = get_or v c.at 0; start = padded (take w (drop (c.at + 1) v)); end = padded (take w (drop (c.at + 1 + w) v)); protocol = get_or v (c.at + 1 + w + w) 0 };
    next = record { at = c.at + (w + w + 2) };
  }))

  pub range-found : Bytes v → (r : Result (Option ℕ) Malformed) → RangeRead v c.at r → HeldRange r ≡ next_range v c
  unfolding next_range answer_at answer_for range_placed
  range-found b (Ok None) h = rw (← h.reads)
  range-found b (Err m) h = rw (← h.reads)
  range-found b (Ok (Some w)) h =
      let i = h.inside in
      let x = again w (c.at + 1) b (omega (arith, i.0)) in
      let y = again w (c.at + 1 + w) b (omega (arith, i.0)) in
      rw (← h.reads, back (c.at + (w + w + 2)) i.0) (unfold range_of range_in in rw (← i.1, x, y))
