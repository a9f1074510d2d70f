-- What holds of the definitions, at every number and status. Each claim is a type here, and is proved in the file given under its
-- name in lower case with dashes.
use Rattle.http_messages.specs.declared.settings.BadSetting.{BadSetting}
use Rattle.http_messages.specs.Settings.{bad_value}
use Rattle.std.specs.Prelude.{◌≡◌, ◌↔◌, ◌⊎◌, ℕ, ◌≤◌, ◌<◌, Bool, true, Some, Result, Ok, Err}
use Rattle.http_messages.specs.declared.messages.Message.TheVariants.{Request, Response}
use Rattle.http_messages.specs.Messages.{request_malformed, response_malformed, field_counts}
use Rattle.http_messages.specs.Settings.{received_setting, setting_error}

-- ---- settings (proofs/Deciding.antt)

-- accepted: 0 or 1, and not below the stored value; bad: above 1, or below it
abbrev pub SettingExactly : Type 0
SettingExactly =
    (value stored : ℕ)
    → ((n : ℕ) → (received_setting value stored ≡ Ok n) ↔ (n ≡ value) × (value ≤ 1) × (stored ≤ value))
    × ((received_setting value stored ≡ Err bad_value) ↔ (1 < value) ⊎ (value < stored))

-- a bad one is error 6
abbrev pub SettingErrorExactly : Type 0
SettingErrorExactly = (s : Result ℕ BadSetting) (e : ℕ) → (setting_error s ≡ Some (record { 0 = e })) ↔ (e ≡ 6) × (s ≡ Err bad_value)

-- ---- messages (proofs/Deciding.antt)

abbrev pub RequestMalformedExactly : Type 0
RequestMalformedExactly =
    (content_length content_type transfer_encoding : Bool)
    → (request_malformed content_length content_type transfer_encoding ≡ true) ↔ (content_length ≡ true) ⊎ ((content_type ≡ true) ⊎ (transfer_encoding ≡ true))

abbrev pub ResponseMalformedExactly : Type 0
ResponseMalformedExactly =
    (status : ℕ) (content_length content_type transfer_encoding : Bool)
    → (response_malformed status content_length content_type transfer_encoding ≡ true)
    ↔ ((status ≡ 204) ⊎ ((status ≡ 205) ⊎ (status ≡ 206))) ⊎ ((content_length ≡ true) ⊎ ((content_type ≡ true) ⊎ (transfer_encoding ≡ true)))

-- on every request; on a response with 101 or 200 to 299
abbrev pub FieldCountsExactly : Type 0
FieldCountsExactly =
    (field_counts Request ≡ true) × ((status : ℕ) → (field_counts (Response status) ≡ true) ↔ (status ≡ 101) ⊎ ((200 ≤ status) × (status ≤ 299)))
