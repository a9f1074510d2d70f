-- Only for the proofs of the code: a table looked through record by record. `Tables` says what each call answers.
use Rattle.refusals.specs.declared.Refusal.{Refusal}
use Rattle.stream_records.specs.declared.answers.Entry.{Entry}
use Rattle.refusals.specs.Numbers.{bad_table}
use Rattle.std.specs.Prelude.{ℕ, Bool, cond, ◌||◌, length, take, leb, ltb, eqb, Option, Some, None, Result, Ok, Err}
use Rattle.stream_records.specs.declared.record.StreamRecord.{StreamRecord}
use Rattle.stream_survey.specs.declared.survey.Survey.{Survey}
use Rattle.stream_records.specs.Records.{is_bad_record}
use Rattle.stream_records.specs.Tables.{Table, any_bad, stands_twice, find, entry_at}

-- where n records have it, or else the one after them, if it does
unfoldable pub after : ℕ → Bool → Option ℕ → Option ℕ
after n b None = cond b (Some n) None
after n b (Some i) = Some i

-- of the records below place i: whether one is bad, or more than 64 are lent; where the quarter stands
unfoldable pub survey_below : ℕ → Table → ℕ → Survey
survey_below q t i = record {
  bad = ltb 64 (length t) || (any_bad (take i t) || stands_twice (take i t));
  place = find q (take i t);
}

unfoldable pub nothing_seen : ℕ → Survey
nothing_seen n = record { bad = ltb 64 n; place = None }

-- of all records; more than 64 are not looked at
unfoldable pub survey_of : ℕ → Table → Survey
survey_of q t = cond (leb (length t) 64) (survey_below q t (length t)) (nothing_seen (length t))

-- how many of n records are looked at
unfoldable pub fitting : ℕ → ℕ
fitting n = cond (leb n 64) n 0

-- with one record more, as far as it makes the table bad; `again` says whether its quarter stands before it
unfoldable pub checked : Survey → StreamRecord → Bool → Survey
checked s r again = record { bad = (again || is_bad_record r) || s.bad; place = s.place }

-- with a used record at place i
unfoldable pub looked_used : Survey → StreamRecord → ℕ → Bool → ℕ → Survey
looked_used s r i again q = record {
  bad = (again || is_bad_record r) || s.bad;
  place = after i (eqb r.quarter.0 q) s.place;
}

-- with a free one
unfoldable pub looked_free : Survey → StreamRecord → Survey
looked_free s r = record { bad = is_bad_record r || s.bad; place = s.place }

unfoldable pub lookup_in : Survey → Table → Result (Option Entry) Refusal
lookup_in s t = cond s.bad (Err bad_table) (Ok (entry_at t s.place))
