-- Cases that fix how document 01 is read of listings: a buffer, and its listing. One statement carries them: `Cases`, proved in proofs/Cases.antt.
use Rattle.refusals.specs.declared.Refusal.{Refusal}
use Rattle.one_shot_listing.specs.declared.Counted.{Counted}
use Rattle.one_shot_listing.specs.Listing.{count_of}
use Rattle.std.specs.Prelude.{◌≡◌, ℕ, List, [], ◌∷◌, map, replicate, Result, Ok, Err}
use Rattle.refusals.specs.Numbers.{refusal}
use Rattle.capsule.specs.declared.reader.Ending.TheVariants.{Clean, Truncated}
use Rattle.one_shot_listing.specs.Listing.{listing_of}

pub data Case : Type 0 where
  lists : (buffer : List ℕ) → Result Counted Refusal → Case

abbrev pub got : Case → Result Counted Refusal
got (lists s l) = listing_of s

abbrev pub expected : Case → Result Counted Refusal
expected (lists s l) = l

abbrev pub table : List Case
table =
    lists [] (Ok (count_of 0 0 Clean))
    -- stream S of the bench cases
    ∷ lists (0x00 ∷ 0x03 ∷ 0x61 ∷ 0x62 ∷ 0x63 ∷ 0x17 ∷ 0x00 ∷ 0x40 ∷ 0x40 ∷ 0x02 ∷ 0xff ∷ 0xee ∷ 0x00 ∷ 0x00 ∷ []) (Ok (count_of 4 9 Clean))
    -- the header bytes of an unfinished capsule do not count
    ∷ lists (0x17 ∷ 0x00 ∷ 0x40 ∷ 0x40 ∷ []) (Ok (count_of 1 2 Truncated))
    -- a part of a type
    ∷ lists (0x40 ∷ []) (Ok (count_of 0 0 Truncated))
    -- one capsule of 4,096 bytes, and one of 4,097
    ∷ lists (0x00 ∷ 0x4f ∷ 0xfd ∷ replicate 4093 0) (Ok (count_of 1 3 Clean))
    ∷ lists (0x00 ∷ 0x4f ∷ 0xfe ∷ replicate 4094 0) (Err (refusal 16))
    ∷ []

abbrev pub Cases : Type 0
Cases = map got table ≡ map expected table
