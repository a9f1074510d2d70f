-- The one-shot listing, over the capsule grammar (document 01, "Capsule streams").
use Rattle.refusals.specs.declared.Refusal.{Refusal}
use Rattle.one_shot_listing.specs.declared.Counted.{Counted}
use Rattle.std.specs.Prelude.{ℕ, ◌+◌, ◌-◌, cond, List, [], ◌∷◌, length, leb, Result, Ok, Err}
use Rattle.refusals.specs.Numbers.{buffer_too_long}
use Rattle.capsule.specs.Grammar.{Capsule, parts}
use Rattle.capsule.specs.declared.reader.Ending.{Ending}
use Rattle.capsule.specs.declared.reader.Ending.TheVariants.{Clean, Truncated}

-- "header bytes of those": a complete capsule's type and length fields (RFC 9297, section 3.2), all of its bytes but the value
unfoldable pub header_bytes : List Capsule → ℕ
header_bytes [] = 0
header_bytes (c ∷ cs) = length c.bytes - length c.value + header_bytes cs

-- "answers clean or truncated", as a clean close does: clean if the tail is empty
unfoldable pub ending_of : List ℕ → Ending
ending_of [] = Clean
ending_of (b ∷ r) = Truncated

-- "a buffer of at most 4,096 bytes"
abbrev pub longest_buffer : ℕ
longest_buffer = 4096

abbrev pub count_of : ℕ → ℕ → Ending → Counted
count_of capsules headers ending = record { capsules = capsules; headers = headers; ending = ending }

-- above that, refusal 16
unfoldable pub listing_of : List ℕ → Result Counted Refusal
listing_of s =
    cond (leb (length s) longest_buffer)
    (Ok (count_of (length (parts s).capsules) (header_bytes (parts s).capsules) (ending_of (parts s).tail)))
    (Err buffer_too_long)
