-- Definitions, and laws of the crates below, that the proofs here use, passed on: one `use` in place of many.
pub use Rattle.http_messages.specs.{Claims.FieldCountsExactly, Claims.RequestMalformedExactly, Claims.ResponseMalformedExactly, Claims.SettingErrorExactly, Claims.SettingExactly, declared.errors.HttpError.HttpError}
unfoldable pub use Rattle.http_messages.specs.{Errors.number, Messages.field_counts, Messages.request_malformed, Messages.response_malformed, Settings.received_setting, Settings.setting_error}
pub use Rattle.wire.proofs.{Parts.both, Parts.parted}
pub use Rattle.walks.proofs.{Impossible.zero_one}
