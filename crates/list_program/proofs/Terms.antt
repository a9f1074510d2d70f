-- Definitions, and laws of the crates below, that the proofs here use, passed on: one `use` in place of many.
pub use Rattle.capsule.proofs.{Verdicts.Accepts, Verdicts.accepted_makeable, Verdicts.accepts, Verdicts.after-close, Verdicts.by_lengths, Verdicts.feed_taken}
pub use Rattle.capsule.specs.{Calls.Lent, Calls.lent, Reader.Feeding, Reader.feeding, Reader.fresh, Reader.opening, declared.reader.Reader.Reader}
unfoldable pub use Rattle.capsule.specs.{Reader.fed_by, Reader.feed_of, Reader.is_makeable, Reader.is_opening, Reader.open_of, Reader.take_of, Reader.verdict_of}
pub use Rattle.capsule_laws.proofs.{Makeable.progress, Makeable.stays_makeable, NotOpted.as_before}
pub use Rattle.list_program.specs.{Progress.Listed, Progress.Lists, Progress.Noted, Progress.Read, Progress.Ready, Progress.Within, Progress.lent_of, Progress.none, Progress.progress_of, Progress.took, declared.Progress.Progress}
unfoldable pub use Rattle.list_program.specs.{Progress.line_in}
pub use Rattle.opening.proofs.{Lending.endpoint_off}
pub use Rattle.opening.specs.{declared.Role.TheVariants.Endpoint}
unfoldable pub use Rattle.opening.specs.{Kinds.opted, Kinds.opted_by}
pub use Rattle.planning.proofs.{Planning.plan-fits}
unfoldable pub use Rattle.planning.specs.{Plans.is_makeable_phase, Plans.plan_of}
pub use Rattle.refusals.specs.{declared.Refusal.Refusal}
pub use Rattle.text_lines.proofs.{Placing.sets_then}
pub use Rattle.text_lines.specs.{Lines.longest, Writing.Writing, Writing.writing}
unfoldable pub use Rattle.text_lines.specs.{Writing.write_at}
pub use Rattle.walks.proofs.{Impossible.zero_one, Impossible.ok_same}
pub use Rattle.wire.proofs.{Numbers.bytes_drop, Numbers.bytes_each, Numbers.bytes_take}
pub use Rattle.wire.specs.{Bytes.Bytes}
unfoldable pub use Rattle.wire.specs.{Partial.is_partial, Partial.starts}
