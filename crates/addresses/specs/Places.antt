-- Where entries stand in a value, as the code finds them.
use Rattle.std.specs.Prelude.{ℕ, ◌+◌, ◌≤◌, ◌<◌, ◌≡◌, List, length, take, drop, get_or, Result, Ok, Err, Option, Some, None}
use Rattle.wire.specs.Bytes.{num}
use Rattle.addresses.specs.declared.Entry as lent
use Rattle.addresses.specs.declared.Malformed.{Malformed}
use Rattle.addresses.specs.Addresses.{Step, done, malformed, next, width_of, Entry, Range, range_at}

-- the entry that is lent
unfoldable pub entry_lent : lent.Entry → Entry
entry_lent e = record { id = e.id; version = e.version; address = e.address.now; prefix = e.prefix }

abbrev pub some_entry : Result lent.Entry Malformed → Result (Option lent.Entry) Malformed
some_entry (Ok e) = Ok (Some e)
some_entry (Err m) = Err m

unfoldable pub placed : List ℕ → Result (Option lent.Entry) Malformed → Step Entry
placed v (Ok None) = done
placed v (Ok (Some e)) = next (entry_lent e) (drop e.next v)
placed v (Err m) = malformed

abbrev pub Inside : List ℕ → ℕ → Result (Option lent.Entry) Malformed → Type 0
Inside v at (Ok None) = Unit {0}
Inside v at (Ok (Some e)) = (at < e.next) × (e.next ≤ length v) × (length e.address.now ≡ width_of e.version) × (length e.address.now ≤ 16)
Inside v at (Err m) = Unit {0}

-- r is the step s of a value at `at`, or behind `at`
pub record EntryRead (s : Step Entry) (v : List ℕ) (at : ℕ) (r : Result (Option lent.Entry) Malformed) : Type 0 where
  pub reads : placed v r ≡ s
  pub inside : Inside v at r

-- the range that starts at `at`
unfoldable pub range_in : List ℕ → ℕ → ℕ → Range
range_in v at w = record { version = get_or v at 0; start = num (take w (drop (at + 1) v)); end = num (take w (drop (at + 1 + w) v)); protocol = get_or v (at + 1 + w + w) 0 }

-- a range whose addresses have w bytes
unfoldable pub range_placed : List ℕ → ℕ → Result (Option ℕ) Malformed → Step Range
range_placed v at (Ok None) = done
range_placed v at (Ok (Some w)) = next (range_in v at w) (drop (at + (w + w + 2)) v)
range_placed v at (Err m) = malformed

abbrev pub RangeInside : List ℕ → ℕ → Result (Option ℕ) Malformed → Type 0
RangeInside v at (Ok None) = Unit {0}
RangeInside v at (Ok (Some w)) = (at + (w + w + 2) ≤ length v) × (w ≡ width_of (get_or v at 0)) × (w ≤ 16)
RangeInside v at (Err m) = Unit {0}

pub record RangeRead (v : List ℕ) (at : ℕ) (r : Result (Option ℕ) Malformed) : Type 0 where
  pub reads : range_placed v at r ≡ range_at (drop at v)
  pub inside : RangeInside v at r
