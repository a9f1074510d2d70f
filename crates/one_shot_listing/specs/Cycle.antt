-- What the three functions of the cycle hand each other: contracts inside the crate.
use Rattle.one_shot_listing.specs.declared.Found.{Found}
use Rattle.short_forms.specs.Short.{varint_of}
use Rattle.std.specs.Prelude.{ℕ, ◌+◌, ◌≤◌, ◌≡◌, List, length, drop, Some}
use Rattle.wire.specs.Varint.{read_varint}
use Rattle.capsule.specs.Grammar.{parts}
use Rattle.one_shot_listing.specs.Listing.{header_bytes}

-- the answer of the cycle: complete capsules, their header bytes, the bytes behind the last one
abbrev pub found_of : ℕ → ℕ → ℕ → Found
found_of capsules headers tail = record { capsules = capsules; headers = headers; tail = tail }

-- the counts so far, and those of the rest
unfoldable pub onwards : ℕ → ℕ → List ℕ → Found
onwards capsules headers rest =
    found_of (capsules + length (parts rest).capsules) (headers + header_bytes (parts rest).capsules) (length (parts rest).tail)

-- the counts of what stands before `start`
pub record Before (s : List ℕ) (start capsules headers : ℕ) : Type 0 where
  pub within : start ≤ length s
  pub few : capsules ≤ start
  pub short : headers ≤ start

-- a type from `start` to `at`
pub record TypeRead (s : List ℕ) (start at : ℕ) : Type 0 where
  pub ctype : ℕ
  pub size : ℕ
  pub reads : read_varint (drop start s) ≡ Some (varint_of ctype size)
  pub ends : at ≡ start + size

-- a type from `start` on, and behind it a length n, which ends at `at`
pub record HeadRead (s : List ℕ) (start at n : ℕ) : Type 0 where
  pub middle : ℕ
  pub type_read : TypeRead s start middle
  pub size : ℕ
  pub reads : read_varint (drop middle s) ≡ Some (varint_of n size)
  pub ends : at ≡ middle + size
