-- The setting SETTINGS_H3_DATAGRAM (RFC 9297, section 2.1.1).
use Rattle.http_messages.specs.declared.errors.HttpError.{HttpError}
use Rattle.http_messages.specs.declared.settings.BadSetting.{BadSetting}
use Rattle.std.specs.Prelude.{ℕ, cond, ◌||◌, ltb, Option, Some, None, Result, Ok, Err}
use Rattle.http_messages.specs.Errors.{bad_setting, http_error}

abbrev pub bad_value : BadSetting
bad_value = record {}

-- a received value is 0 or 1, and not below the value stored for 0-RTT
unfoldable pub received_setting : ℕ → ℕ → Result ℕ BadSetting
received_setting value stored = cond (ltb 1 value || ltb value stored) (Err bad_value) (Ok value)

-- a bad setting is error 6; a good one is no error
unfoldable pub setting_error : Result ℕ BadSetting → Option HttpError
setting_error (Ok value) = None
setting_error (Err e) = Some (http_error bad_setting)
