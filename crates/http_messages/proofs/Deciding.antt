-- Settings and messages, decided at every number. Assumes nothing.
use Rattle.std.specs.Prelude.{Option, Some, None, Ok, Err}
use Rattle.http_messages.specs.Settings.{bad_value}
use Rattle.walks.proofs.Words.{◌≡◌, refl, ap, ◌↔◌, ◌⊎◌, inl, inr, ⊎_elim, iff_trans, iff_and, iff_rfl, Bool, true, false, cond, ◌||◌, ◌&&◌, ℕ, ◌≤◌, ◌<◌, leb, ltb, eqb, leb-true, le-leb, ltb-true, ltb-false, lt-ltb, le-ltb, eqb-true, eq-eqb}
use Rattle.http_messages.proofs.Terms.{both, parted, zero_one, HttpError, SettingExactly, RequestMalformedExactly, ResponseMalformedExactly, FieldCountsExactly, SettingErrorExactly, number, request_malformed, response_malformed, field_counts, received_setting, setting_error}

-- ---- tests joined

either : (a b : Bool) {A B : Type 0} → (a ≡ true) ↔ A → (b ≡ true) ↔ B → (a || b ≡ true) ↔ A ⊎ B
either true b h k = (λ e. inl (h.0 refl), λ s. refl)
either false b h k = (λ e. inr (k.0 e), ⊎_elim (λ s. zero_one (cc (h.1 s))) k.1)

one_of_three : (a b c : Bool) {A B C : Type 0} → (a ≡ true) ↔ A → (b ≡ true) ↔ B → (c ≡ true) ↔ C → (a || b || c ≡ true) ↔ A ⊎ (B ⊎ C)
one_of_three true b c h k l = (λ e. inl (h.0 refl), λ s. refl)
one_of_three false b c h k l = (λ e. inr ((either b c k l).0 e), ⊎_elim (λ s. zero_one (cc (h.1 s))) (either b c k l).1)

neither : (a b : Bool) → (a || b ≡ false) ↔ (a ≡ false) × (b ≡ false)
neither true b = (λ e. zero_one (cc), λ p. p.0)
neither false b = (λ e. (refl, e), λ p. p.1)

is_number : (a b : ℕ) → (eqb a b ≡ true) ↔ (a ≡ b)
is_number a b = (eqb-true a b, eq-eqb a b)

-- ---- messages

pub request_malformed_exactly : RequestMalformedExactly
unfolding request_malformed
request_malformed_exactly a b c = one_of_three a b c iff_rfl iff_rfl iff_rfl

pub response_malformed_exactly : ResponseMalformedExactly
unfolding response_malformed
response_malformed_exactly status a b c =
    either _ _ (one_of_three _ _ _ (is_number status 204) (is_number status 205) (is_number status 206)) (request_malformed_exactly a b c)

pub field_counts_exactly : FieldCountsExactly
unfolding field_counts
field_counts_exactly = (refl, λ status. either _ _ (is_number status 101) (between status))
  where
    between : (status : ℕ) → (leb 200 status && leb status 299 ≡ true) ↔ (200 ≤ status) × (status ≤ 299)
    between status = (
      λ e. let p = parted _ _ e in (leb-true 200 status p.0, leb-true status 299 p.1),
      λ p. both _ _ (le-leb 200 status p.0) (le-leb status 299 p.1),
    )

-- ---- settings

-- by the test that makes a setting bad
accepted : (t : Bool) (value n : ℕ) → (cond t (Err bad_value) (Ok value) ≡ Ok n) ↔ (n ≡ value) × (t ≡ false)
accepted true value n = (λ e. zero_one (cc), λ p. zero_one (cc))
accepted false value n = (λ e. (cc, refl), λ p. rw p.0)

bad : (t : Bool) (value : ℕ) → (cond t (Err bad_value) (Ok value) ≡ Err bad_value) ↔ (t ≡ true)
bad true value = (λ e. refl, λ e. refl)
bad false value = (λ e. zero_one (cc), λ e. zero_one (cc))

above_or_below : (value stored : ℕ) → (ltb 1 value || ltb value stored ≡ true) ↔ (1 < value) ⊎ (value < stored)
above_or_below value stored = either _ _ (ltb-true 1 value, lt-ltb 1 value) (ltb-true value stored, lt-ltb value stored)

within : (value stored : ℕ) → (ltb 1 value || ltb value stored ≡ false) ↔ (value ≤ 1) × (stored ≤ value)
within value stored = iff_trans (neither _ _) (iff_and (ltb-false 1 value, le-ltb 1 value) (ltb-false value stored, le-ltb value stored))

bad_exactly : (value stored : ℕ) → (received_setting value stored ≡ Err bad_value) ↔ (1 < value) ⊎ (value < stored)
unfolding received_setting
bad_exactly value stored = iff_trans (bad _ value) (above_or_below value stored)

pub setting_exactly : SettingExactly
unfolding received_setting
setting_exactly value stored = (λ n. (only n, λ p. (accepted _ value n).1 (p.0, (within value stored).1 (p.1, p.2))), bad_exactly value stored)
  where
    only : (n : ℕ) → received_setting value stored ≡ Ok n → (n ≡ value) × (value ≤ 1) × (stored ≤ value)
    only n e =
        let p = (accepted _ value n).0 e in
        let w = (within value stored).0 p.1 in
        (p.0, w.0, w.1)

-- ---- errors

pub no_error {ℓ} : {X : Type ℓ} {e : ℕ} → ◌≡◌ {A = Option HttpError} None (Some (record { 0 = e })) → X
no_error h = zero_one (cc)

pub is_error : (k e : ℕ) → (◌≡◌ {A = Option HttpError} (Some (record { 0 = k })) (Some (record { 0 = e }))) ↔ (e ≡ k)
is_error k e = (λ h. let r : ◌≡◌ {A = HttpError} (record { 0 = e }) (record { 0 = k }) = cc in ap (λ (x : HttpError). x.0) r, λ h. rw h)

pub setting_error_exactly : SettingErrorExactly
unfolding setting_error number
setting_error_exactly (Ok n) e = (no_error, λ p. zero_one (cc))
setting_error_exactly (Err b) e = (λ h. ((is_error 6 e).0 h, refl), λ p. (is_error 6 e).1 p.0)
