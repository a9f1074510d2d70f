-- Definitions, and laws of the crates below, that the proofs here use, passed on: one `use` in place of many.
pub use Rattle.capsule.proofs.{Moving.stored_none, Moving.stored_some, Moving.takes, Moving.wrote_none, Moving.wrote_some, Verdicts.accepts, Verdicts.by_lengths, Verdicts.feed_refused, Verdicts.feed_taken, Verdicts.unmakeable}
pub use Rattle.capsule.specs.{Calls.Lent, Calls.lent, Moves.Wrote, Reader.Feeding, Reader.feeding, Reader.fresh, declared.reader.Reader.Reader}
unfoldable pub use Rattle.capsule.specs.{Calls.finishes_in, Reader.feed_of, Reader.is_makeable, Reader.is_opening, Reader.judged_in, Reader.stored, Reader.verdict_of, Reader.wrote}
pub use Rattle.fast_paths.specs.{Claims.InsideFeeds, Claims.NotUnchanged, Claims.WholeFeeds, FastPaths.InsideFed, FastPaths.WholeFed, FastPaths.in_value, FastPaths.inside_after, FastPaths.inside_by, FastPaths.inside_fed, FastPaths.whole_after, FastPaths.whole_by, FastPaths.whole_fed}
unfoldable pub use Rattle.fast_paths.specs.{FastPaths.inside_in, FastPaths.inside_of, FastPaths.is_plain, FastPaths.is_short, FastPaths.whole_in, FastPaths.whole_of}
pub use Rattle.copying.specs.{Copy.copying}
unfoldable pub use Rattle.copying.specs.{Copy.copy}
pub use Rattle.opening.specs.{declared.Kind.Kind, declared.Kind.TheVariants.Address, declared.Kind.TheVariants.Datagram, declared.Kind.TheVariants.Unknown, declared.Opening.Opening, declared.Report.Report, declared.Report.TheVariants.Delivered, declared.Report.TheVariants.Dropped, declared.Role.Role, declared.Role.TheVariants.Endpoint, declared.Role.TheVariants.Intermediary}
unfoldable pub use Rattle.opening.specs.{Kinds.extent_by, Kinds.extent_of, Kinds.finishes, Kinds.forwards, Kinds.forwards_by, Kinds.gathers, Kinds.gathers_by, Kinds.judged, Kinds.keeps, Kinds.keeps_by, Kinds.kind_of, Kinds.length_of, Kinds.report_by, Kinds.report_of, Lent.lent_verdict}
pub use Rattle.planning.proofs.{Planning.extent_most, Planning.forwards_role, Planning.gathers_limit, Planning.makeable_value, Planning.value-ends, Planning.value_goes, Reaching.short_reached, Reaching.value-within, Reaching.valued}
pub use Rattle.planning.specs.{Plans.no_bytes, declared.Header.Header, declared.Phase.Phase, declared.Phase.TheVariants.InLength, declared.Phase.TheVariants.InType, declared.Phase.TheVariants.InValue, declared.Plan.Plan, declared.Reached.TheVariants.Value}
unfoldable pub use Rattle.planning.specs.{Headers.short_header, Plans.held_of, Plans.is_makeable_phase, Plans.plan_of, Plans.plan_type, Plans.plan_value}
pub use Rattle.refusals.specs.{Numbers.unmakeable_state, declared.Refusal.Refusal}
pub use Rattle.walks.proofs.{Impossible.no_true, Impossible.zero_one}
pub use Rattle.wire.proofs.{Reading.split}
pub use Rattle.wire.specs.{Bytes.Bytes}
unfoldable pub use Rattle.wire.specs.{Bytes.bytes_of, Partial.is_partial, Partial.starts}
