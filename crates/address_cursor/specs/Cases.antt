-- Values and what they hand out.
use Rattle.std.specs.Prelude.{ℕ, ◌≡◌, List, [], ◌∷◌, map, replicate, Some, None, Ok, Err}
use Rattle.addresses.specs.Cases.{two_addresses}
use Rattle.address_cursor.specs.declared.Cursor.{Cursor}
use Rattle.address_cursor.specs.declared.Address.{Address}
use Rattle.address_cursor.specs.declared.AddressRange.{AddressRange}
use Rattle.address_cursor.specs.Handing.{Answer, next_address, next_range}

abbrev place : ℕ → Cursor
place at = record { at = at }

-- a value, a place in it, and what is answered there
pub record Case (A : Type 0) : Type 0 where
  pub value : List ℕ
  pub at : Cursor
  pub answer : A

abbrev case : {A : Type 0} → List ℕ → ℕ → A → Case A
case v at a = record { value = v; at = place at; answer = a }

abbrev address : ℕ → ℕ → List ℕ → ℕ → ℕ → Answer Address
address id version bytes prefix at = Ok (Some (record { entry = record { id = id; version = version; bytes = bytes; prefix = prefix }; next = place at }))

abbrev address_cases : List (Case (Answer Address))
address_cases =
    case two_addresses 0 (address 5 4 (10 ∷ 0 ∷ 0 ∷ 1 ∷ replicate 12 0) 32 7) ∷
    case two_addresses 7 (address 1 6 (32 ∷ 1 ∷ 13 ∷ 184 ∷ 0 ∷ 0 ∷ 0 ∷ 0 ∷ 0 ∷ 0 ∷ 0 ∷ 0 ∷ 0 ∷ 0 ∷ 0 ∷ 1 ∷ []) 128 27) ∷
    case two_addresses 27 (Ok None) ∷
    case two_addresses 28 (Ok None) ∷
    case two_addresses 1 (Err (record {})) ∷
    case [] 0 (Ok None) ∷
    []

abbrev pub AddressesHanded : Type 0
AddressesHanded =
    map (λ c. next_address c.value c.at) address_cases ≡ map (λ c. c.answer) address_cases

abbrev range : ℕ → List ℕ → List ℕ → ℕ → ℕ → Answer AddressRange
range version start end protocol at = Ok (Some (record { entry = record { version = version; start = start; end = end; protocol = protocol }; next = place at }))

-- a range of each version: 10 and 34 bytes
abbrev pub two_ranges : List ℕ
two_ranges = 4 ∷ 10 ∷ 0 ∷ 0 ∷ 1 ∷ 10 ∷ 0 ∷ 0 ∷ 5 ∷ 17 ∷ 6 ∷ 32 ∷ 1 ∷ 13 ∷ 184 ∷ 0 ∷ 0 ∷ 0 ∷ 0 ∷ 0 ∷ 0 ∷ 0 ∷ 0 ∷ 0 ∷ 0 ∷ 0 ∷ 0 ∷ 32 ∷ 1 ∷ 13 ∷ 184 ∷ 0 ∷ 0 ∷ 0 ∷ 0 ∷ 0 ∷ 0 ∷ 0 ∷ 0 ∷ 0 ∷ 0 ∷ 0 ∷ 9 ∷ 58 ∷ []

abbrev range_cases : List (Case (Answer AddressRange))
range_cases =
    case two_ranges 0 (range 4 (10 ∷ 0 ∷ 0 ∷ 1 ∷ replicate 12 0) (10 ∷ 0 ∷ 0 ∷ 5 ∷ replicate 12 0) 17 10) ∷
    case two_ranges 10 (range 6 (32 ∷ 1 ∷ 13 ∷ 184 ∷ replicate 12 0) (32 ∷ 1 ∷ 13 ∷ 184 ∷ 0 ∷ 0 ∷ 0 ∷ 0 ∷ 0 ∷ 0 ∷ 0 ∷ 0 ∷ 0 ∷ 0 ∷ 0 ∷ 9 ∷ []) 58 44) ∷
    case two_ranges 44 (Ok None) ∷
    case two_ranges 45 (Ok None) ∷
    case two_ranges 1 (Err (record {})) ∷
    case [] 0 (Ok None) ∷
    []

abbrev pub RangesHanded : Type 0
RangesHanded =
    map (λ c. next_range c.value c.at) range_cases ≡ map (λ c. c.answer) range_cases
