-- Which error an answer is, decided at every answer. Assumes nothing.
use Rattle.std.specs.Prelude.{Ok, Err}
use Rattle.capsule.specs.declared.reader.Ending.TheVariants.{Clean, Truncated}
use Rattle.walks.proofs.Words.{◌≡◌, refl, ◌⊎◌, inl, inr, ⊎_elim, Option, None, Some, ℕ, ◌+◌, ◌<◌, arith}
use Rattle.opening.specs.declared.Report.TheVariants as report
use Rattle.judging.specs.declared.judge.Judged.TheVariants as judged
use Rattle.http_errors.proofs.Terms.{rule_of, number, zero_one, no_error, is_error, close_error, report_error, judged_error, CloseErrorExactly, ReportErrorExactly, JudgedErrorExactly}

pub close_error_exactly : CloseErrorExactly
unfolding close_error number
close_error_exactly (Err r) e = (no_error, λ p. zero_one (cc))
close_error_exactly (Ok Clean) e = (no_error, λ p. zero_one (cc))
close_error_exactly (Ok Truncated) e = (λ h. ((is_error 1 e).0 h, refl), λ p. (is_error 1 e).1 p.0)

pub report_error_exactly : ReportErrorExactly
unfolding report_error number
report_error_exactly (report.Delivered n) e = (no_error, λ p. zero_one (cc))
report_error_exactly (report.Dropped n) e = (no_error, λ p. zero_one (cc))
report_error_exactly (report.Skipped t n) e = (no_error, λ p. zero_one (cc))
report_error_exactly (report.Passed t n) e = (no_error, λ p. zero_one (cc))
report_error_exactly (report.AddressDelivered t n) e = (no_error, λ p. zero_one (cc))
report_error_exactly (report.Malformed t n) e = (λ h. ((is_error 7 e).0 h, (t, n, refl)), λ p. (is_error 7 e).1 p.0)

-- the rules that are errors, and which
abbrev Ruled : Option ℕ → ℕ → Type 0
Ruled r e = ((r ≡ Some 1) × (e ≡ 3)) ⊎ (((r ≡ Some 2) × (e ≡ 4)) ⊎ (((r ≡ Some 3) × (e ≡ 5)) ⊎ ((r ≡ Some 6) × (e ≡ 2))))

none_ruled {ℓ} : {X : Type ℓ} {e : ℕ} → Ruled None e → X
none_ruled = ⊎_elim (λ p. zero_one (cc)) (⊎_elim (λ p. zero_one (cc)) (⊎_elim (λ p. zero_one (cc)) (λ p. zero_one (cc))))

same_rule : (n k : ℕ) → Some n ≡ Some k → n ≡ k
same_rule n k h = cc

ruled : (n e : ℕ) → Ruled (Some n) e → ((n < 4) × (e ≡ n + 2)) ⊎ ((n ≡ 6) × (e ≡ 2))
ruled n e = ⊎_elim (low 1 (omega arith)) (⊎_elim (low 2 (omega arith)) (⊎_elim (low 3 (omega arith)) (λ p. inr (same_rule n 6 p.0, p.1))))
  where
    low : (k : ℕ) → k < 4 → (Some n ≡ Some k) × (e ≡ k + 2) → ((n < 4) × (e ≡ n + 2)) ⊎ ((n ≡ 6) × (e ≡ 2))
    low k h p = inl (rw (same_rule n k p.0) (h, p.1))

low_error : (n e : ℕ) → n < 4 → Ruled (Some n) e → e ≡ n + 2
low_error n e l p = ⊎_elim (λ q. q.1) (λ q. omega arith) (ruled n e p)

-- a rule that is none of them
not_ruled {ℓ} : {X : Type ℓ} (n e : ℕ) → 3 < n → (n ≡ 6 → ⊥) → Ruled (Some n) e → X
not_ruled n e l d p = absurd (⊎_elim (λ q. let z : ⊥ = omega arith in z) (λ q. d q.0) (ruled n e p))

pub judged_error_exactly : JudgedErrorExactly
unfolding judged_error rule_of number
judged_error_exactly (Err r) e = (no_error, none_ruled)
judged_error_exactly (Ok judged.ShortFrame) e = (λ h. inl (refl, (is_error 3 e).0 h), λ p. (is_error 3 e).1 (low_error 1 e (omega arith) p))
judged_error_exactly (Ok (judged.QuarterTooLarge q)) e = (λ h. inr (inl (refl, (is_error 4 e).0 h)), λ p. (is_error 4 e).1 (low_error 2 e (omega arith) p))
judged_error_exactly (Ok (judged.BeyondLimit q)) e = (λ h. inr (inr (inl (refl, (is_error 5 e).0 h))), λ p. (is_error 5 e).1 (low_error 3 e (omega arith) p))
judged_error_exactly (Ok (judged.NoStream q)) e = (no_error, not_ruled 4 e (omega arith) (λ h. omega arith))
judged_error_exactly (Ok (judged.ReceiveClosed q place)) e = (no_error, not_ruled 5 e (omega arith) (λ h. omega arith))
judged_error_exactly (Ok (judged.NoSemantics q place)) e = (λ h. inr (inr (inr (refl, (is_error 2 e).0 h))), λ p. (is_error 2 e).1 (⊎_elim (λ q. omega arith) (λ q. q.1) (ruled 6 e p)))
judged_error_exactly (Ok (judged.TooLong q place)) e = (no_error, not_ruled 7 e (omega arith) (λ h. omega arith))
judged_error_exactly (Ok (judged.Delivered q place)) e = (no_error, not_ruled 8 e (omega arith) (λ h. omega arith))
