-- Definitions, and laws of the crates below, that the proofs here use, passed on: one `use` in place of many.
unfoldable pub use Rattle.addresses.specs.{Addresses.longest_address_value}
pub use Rattle.capsule.specs.{Calls.Lent, Calls.lent, Moves.Wrote, Reader.feeding, declared.reader.Reader.Reader}
unfoldable pub use Rattle.capsule.specs.{Book.only_if, Calls.finishes_in, Reader.fed_by, Reader.feed_by, Reader.feed_of, Reader.is_makeable, Reader.is_opening, Reader.judged_in, Reader.stored, Reader.take_of, Reader.verdict_of, Reader.wrote}
pub use Rattle.copying.proofs.{Laws.copied}
pub use Rattle.copying.specs.{Copy.copying}
unfoldable pub use Rattle.copying.specs.{Copy.copy}
pub use Rattle.opening.proofs.{Lending.addresses-short, Lending.gathering-short, Lending.output-short}
pub use Rattle.opening.specs.{declared.Role.TheVariants.Intermediary}
unfoldable pub use Rattle.opening.specs.{Kinds.opted, Lent.lent_verdict}
pub use Rattle.planning.proofs.{Planning.Fits, Planning.held_few, Planning.plan-fits}
pub use Rattle.planning.specs.{declared.Plan.Plan}
unfoldable pub use Rattle.planning.specs.{Plans.held_of, Plans.is_makeable_phase, Plans.plan_of}
pub use Rattle.refusals.specs.{Numbers.finished, Numbers.unmakeable_state, declared.Refusal.Refusal}
pub use Rattle.walks.proofs.{Impossible.zero_one}
pub use Rattle.wire.proofs.{Numbers.length-bytes_of, Numbers.sets-append, Parts.parted, Reading.split}
pub use Rattle.wire.specs.{declared.partial.Partial.Partial}
unfoldable pub use Rattle.wire.specs.{Bytes.bytes_of, Partial.held_bytes}
