-- What holds of errors, at every answer and version. Each claim is a type here, and is proved in the file given under its name in lower case with
-- dashes.
use Rattle.refusals.specs.declared.Refusal.{Refusal}
use Rattle.capsule.specs.declared.reader.Ending.{Ending}
use Rattle.capsule.specs.declared.reader.Ending.TheVariants.{Truncated}
use Rattle.std.specs.Prelude.{◌≡◌, ◌↔◌, ◌⊎◌, ℕ, Some, Result, Ok}
use Rattle.opening.specs.declared.Report.{Report}
use Rattle.opening.specs.declared.Report.TheVariants as report
use Rattle.judging.specs.declared.judge.Judged.{Judged}
use Rattle.judging.specs.Judging.{rule_of}
use Rattle.http_errors.specs.Ties.{close_error, report_error, judged_error}
use Rattle.http_errors.specs.Translation.{translated}

-- ---- which error an answer is (proofs/Deciding.antt)

abbrev pub CloseErrorExactly : Type 0
CloseErrorExactly = (a : Result Ending Refusal) (e : ℕ) → (close_error a ≡ Some (record { 0 = e })) ↔ (e ≡ 1) × (a ≡ Ok Truncated)

abbrev pub ReportErrorExactly : Type 0
ReportErrorExactly = (r : Report) (e : ℕ) → (report_error r ≡ Some (record { 0 = e })) ↔ (e ≡ 7) × ((t : ℕ) × (n : ℕ) × (r ≡ report.Malformed t n))

-- rules 1, 2, 3 and 6 are errors 3, 4, 5 and 2
abbrev pub JudgedErrorExactly : Type 0
JudgedErrorExactly =
    (j : Result Judged Refusal) (e : ℕ)
    → (judged_error j ≡ Some (record { 0 = e }))
    ↔ ((rule_of j ≡ Some 1) × (e ≡ 3)) ⊎ (((rule_of j ≡ Some 2) × (e ≡ 4)) ⊎ (((rule_of j ≡ Some 3) × (e ≡ 5)) ⊎ ((rule_of j ≡ Some 6) × (e ≡ 2))))

-- ---- translation (proofs/Lookup.antt)

-- error 7 is translated as error 1 on every version, unknown ones too
abbrev pub MalformedAsTruncated : Type 0
MalformedAsTruncated = (version : ℕ) → translated 7 version ≡ translated 1 version
