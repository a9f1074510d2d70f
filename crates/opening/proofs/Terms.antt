-- Definitions, and laws of the crates below, that the proofs here use, passed on: one `use` in place of many.
unfoldable pub use Rattle.addresses.specs.{Addresses.is_address_type, Addresses.longest_address_value}
pub use Rattle.opening.specs.{declared.Kind.TheVariants.Address, declared.Kind.TheVariants.Datagram, declared.Kind.TheVariants.Unknown, declared.Opening.Opening, declared.Role.TheVariants.Endpoint, declared.Role.TheVariants.Intermediary}
unfoldable pub use Rattle.opening.specs.{Kinds.kind_of, Kinds.opted, Kinds.opted_by, Lent.addresses_verdict, Lent.lent_verdict, Lent.output_verdict}
pub use Rattle.refusals.specs.{Numbers.addresses_too_short, Numbers.gathering_too_short, Numbers.output_too_short}
pub use Rattle.walks.proofs.{Impossible.no_true}
pub use Rattle.wire.proofs.{Parts.parted}
