-- Definitions, and laws of the crates below, that the proofs here use, passed on: one `use` in place of many.
pub use Rattle.copying.specs.{Copy.Copying, Copy.copying}
unfoldable pub use Rattle.copying.specs.{Copy.both_have, Copy.copy}
