-- Definitions that the proofs here use, passed on: one `use` in place of many.
pub use Rattle.short_forms.specs.{Cases.CasesHold, Claims.TwoBytesOnly}
unfoldable pub use Rattle.short_forms.specs.{Short.read_short, Short.read_two}
pub use Rattle.walks.proofs.{Impossible.zero_one}
