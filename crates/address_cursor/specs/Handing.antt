-- A value's entries handed out, one after another.
use Rattle.std.specs.Prelude.{ℕ, zero, suc, ◌-◌, List, [], ◌++◌, length, drop, replicate}
use Rattle.std.specs.Prelude.{Option, None, Some, Result, Ok, Err}
use Rattle.wire.specs.Bytes.{bytes_of}
use Rattle.address_cursor.specs.declared.Cursor.{Cursor}
use Rattle.address_cursor.specs.declared.Next.{Next}
use Rattle.address_cursor.specs.declared.Address.{Address}
use Rattle.address_cursor.specs.declared.AddressRange.{AddressRange}
use Rattle.addresses.specs.declared.Malformed.{Malformed}
use Rattle.addresses.specs.Addresses.{Step, done, malformed, next, ahead, width_of, Entry, entry_at, Range, range_at}

-- ---- the answer at a place

-- an entry and the place behind it; none at the end
abbrev pub Answer : Type 0 → Type 0
Answer A = Result (Option (Next A)) Malformed

abbrev pub behind : List ℕ → List ℕ → Cursor
behind v rest = record { at = length v - length rest }

-- an entry in the form in which it is handed out
unfoldable pub answer_for : {A B : Type 0} → (A → B) → List ℕ → Step A → Answer B
answer_for form v done = Ok None
answer_for form v malformed = Err (record {})
answer_for form v (next e rest) = Ok (Some (record { entry = form e; next = behind v rest }))

unfoldable pub answer_at : {A B : Type 0} → (List ℕ → Step A) → (A → B) → List ℕ → Cursor → Answer B
answer_at read form v c = answer_for form v (read (drop c.at v))

-- ---- addresses

-- 16 bytes, the address first
unfoldable pub padded : List ℕ → List ℕ
padded a = a ++ replicate (16 - length a) 0

unfoldable pub address_of : Entry → Address
address_of e = record { id = e.id; version = e.version; bytes = padded e.address; prefix = e.prefix }

unfoldable pub next_address : List ℕ → Cursor → Answer Address
next_address v c = answer_at entry_at address_of v c

-- ---- ranges

-- the addresses as bytes again
unfoldable pub range_of : Range → AddressRange
range_of r =
    let w = width_of r.version in
    record { version = r.version; start = padded (bytes_of w r.start); end = padded (bytes_of w r.end); protocol = r.protocol }

unfoldable pub next_range : List ℕ → Cursor → Answer AddressRange
next_range v c = answer_at range_at range_of v c

-- ---- calls, each where the one before it ended

-- what an answer hands out, and then what the calls after it do
unfoldable pub collected : {A : Type 0} → Answer A → (Cursor → Option (List A)) → Option (List A)
collected (Ok (Some s)) later = ahead s.entry (later s.next)
collected (Ok None) later = Some []
collected (Err m) later = None

-- what so many calls hand out, the first of them at c; none if they end malformed, or not at all
unfoldable pub handed_from : {A : Type 0} → (Cursor → Answer A) → ℕ → Cursor → Option (List A)
handed_from call zero c = None
handed_from call (suc calls) c = collected (call c) (handed_from call calls)
