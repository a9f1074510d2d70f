-- Entries of an address capsule's value, in the header's form. `next_address` and `next_range` (crate address_cursor) hand them out.
use Rattle.std.specs.Prelude.{ℕ, replicate, Some, None, Ok, Err}
use Rattle.address_cursor.specs.declared.Address.{Address}
use Rattle.address_cursor.specs.declared.AddressRange.{AddressRange}
use Rattle.address_cursor.specs.declared.Cursor.{Cursor}
use Rattle.address_cursor.specs.Handing.{Answer}
use Rattle.answers.specs.declared.address_capsules.AddressEntry.{AddressEntry}
use Rattle.answers.specs.declared.address_capsules.AddressFound.{AddressFound}
use Rattle.answers.specs.declared.address_capsules.RouteEntry.{RouteEntry}
use Rattle.answers.specs.declared.address_capsules.RouteFound.{RouteFound}

unfoldable pub found_number : {A : Type 0} → Answer A → ℕ
found_number (Ok None) = 0
found_number (Ok (Some s)) = 1
found_number (Err m) = 2

abbrev pub cursor : ℕ → Cursor
cursor n = record { at = n }

-- the place behind the entry; where there is none, the same place
unfoldable pub next_place : {A : Type 0} → Cursor → Answer A → ℕ
next_place c (Ok (Some s)) = s.next.at
next_place c (Ok None) = c.at
next_place c (Err m) = c.at

-- ---- addresses

unfoldable pub address_entry : Address → AddressEntry
address_entry a = record { id = a.id; version = a.version; prefix = a.prefix; address = a.bytes; reserved = replicate 6 0 }

unfoldable pub blank_address : AddressEntry
blank_address = record { id = 0; version = 0; prefix = 0; address = replicate 16 0; reserved = replicate 6 0 }

unfoldable pub address_answered : Answer Address → AddressEntry
address_answered (Ok (Some s)) = address_entry s.entry
address_answered (Ok None) = blank_address
address_answered (Err m) = blank_address

unfoldable pub address_found : Cursor → Answer Address → AddressFound
address_found c a = record { found = found_number a; next = next_place c a; address = address_answered a }

-- ---- ranges

unfoldable pub route_entry : AddressRange → RouteEntry
route_entry r = record { version = r.version; protocol = r.protocol; start = r.start; end = r.end }

unfoldable pub blank_route : RouteEntry
blank_route = record { version = 0; protocol = 0; start = replicate 16 0; end = replicate 16 0 }

unfoldable pub route_answered : Answer AddressRange → RouteEntry
route_answered (Ok (Some s)) = route_entry s.entry
route_answered (Ok None) = blank_route
route_answered (Err m) = blank_route

unfoldable pub route_found : Cursor → Answer AddressRange → RouteFound
route_found c a = record { found = found_number a; next = next_place c a; route = route_answered a }
