-- The errors of document 01 and their numbers, "What each error becomes on each HTTP version"; error 7 is of document 02, request 4.
use Rattle.std.specs.Prelude.{ℕ}
use Rattle.http_messages.specs.declared.errors.HttpError.{HttpError}

pub data Error : Type 0 where
  truncated no_semantics short_frame quarter_too_large beyond_limit bad_setting malformed : Error

unfoldable pub number : Error → ℕ
number truncated = 1
number no_semantics = 2
number short_frame = 3
number quarter_too_large = 4
number beyond_limit = 5
number bad_setting = 6
number malformed = 7

abbrev pub http_error : Error → HttpError
http_error e = record { 0 = number e }
