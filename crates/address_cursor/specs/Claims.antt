-- What holds of handing out: the claim is a type here, and is proved in proofs/Stepping.antt.
use Rattle.std.specs.Prelude.{◌≡◌, ℕ, ◌<◌, List, map, length, drop}
use Rattle.std.specs.Option.{option_map}
use Rattle.addresses.specs.Addresses.{Step, entries, entry_at, range_at}
use Rattle.address_cursor.specs.declared.Cursor.{Cursor}
use Rattle.address_cursor.specs.Handing.{Answer, handed_from, address_of, next_address, range_of, next_range}

-- from any place: calls, each where the one before it ended, hand out the entries of what is left there, and end malformed
-- exactly if that is malformed; one more than bytes are left is enough
abbrev pub HandsOut : {A B : Type 0} → (List ℕ → Step A) → (A → B) → (List ℕ → Cursor → Answer B) → Type 0
HandsOut read form call =
    (v : List ℕ) (c : Cursor) (calls : ℕ) → length (drop c.at v) < calls → handed_from (call v) calls c ≡ option_map (map form) (entries read (drop c.at v))

abbrev pub SteppedExactly : Type 0
SteppedExactly = HandsOut entry_at address_of next_address × HandsOut range_at range_of next_range
