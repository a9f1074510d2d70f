-- The one-shot listing, in numbers.
use Rattle.refusals.specs.declared.Refusal.{Refusal}
use Rattle.one_shot_listing.specs.declared.Counted.{Counted}
use Rattle.std.specs.Prelude.{ℕ, Result, Ok, Err}
use Rattle.capsule.specs.declared.reader.Ending.{Ending}
use Rattle.answers.specs.declared.one_shot.ListingAnswer.{ListingAnswer}
use Rattle.answers.specs.Numbers.{end_number}

-- the number that a clean close of the same stream answers
unfoldable pub ending_number : Ending → ℕ
ending_number e = end_number (Ok e)

unfoldable pub listing_answer : Result Counted Refusal → ListingAnswer
listing_answer (Err why) = record { refusal = why.0; capsules = 0; headers = 0; end = 0 }
listing_answer (Ok count) =
    record { refusal = 0; capsules = count.capsules; headers = count.headers; end = ending_number count.ending }
