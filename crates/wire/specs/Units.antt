-- Request streams and their quarter stream IDs (RFC 9297, section 2.1).
use Rattle.std.specs.Prelude.{ℕ, ◌*◌, ◌/◌, ◌%◌, ◌^◌, ◌-◌, ◌≤◌, ◌≡◌, Bool, cond, ◌&&◌, leb, eqb, Option, Some, None}
use Rattle.wire.specs.declared.units.StreamId.{StreamId}
use Rattle.wire.specs.declared.units.Quarter.{Quarter}

-- a request stream's ID is divisible by 4, and at most 2^62-1 as every stream ID is (RFC 9000, section 2.1)
abbrev pub IsRequestStream : ℕ → Type 0
IsRequestStream id = (id % 4 ≡ 0) × (id ≤ 2 ^ 62 - 1)

-- as a test (`RequestExactly`)
unfoldable pub is_request : ℕ → Bool
is_request id = leb id (2 ^ 62 - 1) && eqb (id % 4) 0

unfoldable pub largest_quarter : ℕ
largest_quarter = 2 ^ 60 - 1

unfoldable pub quarter_of : StreamId → Option Quarter
quarter_of id = cond (is_request id.0) (Some (record { 0 = id.0 / 4 })) None

unfoldable pub stream_of : Quarter → Option StreamId
stream_of q = cond (leb q.0 largest_quarter) (Some (record { 0 = q.0 * 4 })) None
