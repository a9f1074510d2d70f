-- Definitions, and laws of the crates below, that the proofs here use, passed on: one `use` in place of many.
pub use Rattle.capsule.specs.{Reader.Feeding, declared.reader.Closed.Closed}
pub use Rattle.capsule_laws.proofs.{Arising.refused-close_unchanged, Makeable.refused_unchanged}
pub use Rattle.host.specs.{Claims.RefusedCloseLeaves, Claims.RefusedCloseLeavesConnection, Claims.RefusedFeedLeaves, Claims.RefusedFeedLeavesConnection, Connections.SameBeside, declared.reader.Connection.Connection}
