-- What holds of the listing. Each claim is a type here, and is proved in proofs/Agreement.antt under its name in lower case with dashes.
use Rattle.one_shot_listing.specs.Listing.{count_of}
use Rattle.std.specs.Prelude.{ℕ, ◌+◌, ◌≤◌, ◌≡◌, Bool, false, List, [], ◌∷◌, length, Ok}
use Rattle.opening.specs.declared.Role.{Role}
use Rattle.capsule.specs.declared.reader.Reader.{Reader}
use Rattle.capsule.specs.Grammar.{Capsule, parts}
use Rattle.capsule.specs.Calls.{Call, close, closed, run}
use Rattle.capsule.specs.Reader.{open_of, reader_call}
use Rattle.capsule_laws.specs.Claims.{AllBytes, consumed_in, reports}
use Rattle.capsule.specs.declared.reader.Ending.{Ending}
use Rattle.one_shot_listing.specs.Listing.{header_bytes, longest_buffer, listing_of}

-- the bytes of values, by the lengths that were read
unfoldable pub value_bytes : List Capsule → ℕ
value_bytes [] = 0
value_bytes (c ∷ cs) = c.size + value_bytes cs

-- header bytes, value bytes and the tail are all bytes
abbrev pub HeadersExactly : Type 0
HeadersExactly = (s : List ℕ) → header_bytes (parts s).capsules + value_bytes (parts s).capsules + length (parts s).tail ≡ length s

-- the listing of the bytes that a reader consumed has as many capsules as its answers had reports, and the ending that a close now answers
pub record Agreeing (r : Reader) (cs : List Call) : Type 0 where
  pub ending : Ending
  pub lists : let xs = (run reader_call r cs).1 in listing_of (consumed_in cs xs) ≡ Ok (count_of (length (reports xs)) (header_bytes (parts (consumed_in cs xs)).capsules) ending)
  pub closes : (reader_call (run reader_call r cs).0 close).1 ≡ closed ending

-- "must agree with the reader": for every opening, however the stream was cut, and whatever buffers were lent
abbrev pub AgreesWithReader : Type 0
AgreesWithReader =
    (role : Role) (limit : ℕ) (draft addresses : Bool) (r : Reader)
    → open_of role limit draft addresses ≡ Ok r
    → (cs : List Call)
    → AllBytes cs
    → (run reader_call r cs).0.finished ≡ false
    → length (consumed_in cs (run reader_call r cs).1) ≤ longest_buffer
    → Agreeing r cs
