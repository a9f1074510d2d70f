-- How a call reads numbers, and the numbers of its answers. Every number has a reading.
use Rattle.refusals.specs.declared.Refusal.{Refusal}
use Rattle.capsule.specs.declared.reader.Ending.{Ending}
use Rattle.capsule.specs.declared.reader.Ending.TheVariants.{Clean, Truncated}
use Rattle.http_messages.specs.declared.errors.HttpError.{HttpError}
use Rattle.std.specs.Prelude.{ℕ, cond, leb, eqb, Option, Some, None, Result, Ok, Err}
use Rattle.stream_records.specs.declared.record.Side.{Side}
use Rattle.stream_records.specs.declared.record.Side.TheVariants.{Receive, Send}

-- ---- readings

unfoldable pub side_of : ℕ → Side
side_of n = cond (eqb n 0) Receive Send

-- no status is above 65,535: 0, which is none either, stands for it
unfoldable pub status_of : ℕ → ℕ
status_of n = cond (leb n 65535) n 0

-- ---- numbers of answers (a refusal's is document 01's, its field 0)

-- 0 where there is none
unfoldable pub error_number : Option HttpError → ℕ
error_number None = 0
error_number (Some e) = e.0

-- how a stream ends: 1 clean, 2 truncated; 0 where that is not answered
unfoldable pub end_number : Result Ending Refusal → ℕ
end_number (Err why) = 0
end_number (Ok Clean) = 1
end_number (Ok Truncated) = 2
