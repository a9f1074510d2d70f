-- Definitions, and laws of the crates below, that the proofs here use, passed on: one `use` in place of many.
unfoldable pub use Rattle.addresses.specs.{Addresses.longest_address_value}
pub use Rattle.opening.specs.{declared.Kind.Kind, declared.Kind.TheVariants.Address, declared.Kind.TheVariants.Datagram, declared.Kind.TheVariants.Unknown, declared.Opening.Opening, declared.Role.Role, declared.Role.TheVariants.Endpoint, declared.Role.TheVariants.Intermediary}
unfoldable pub use Rattle.opening.specs.{Kinds.extent_by, Kinds.extent_of, Kinds.forwards, Kinds.forwards_by, Kinds.gathers, Kinds.gathers_by, Kinds.keeps, Kinds.keeps_by, Kinds.kind_of, Kinds.opted, Kinds.report_of}
pub use Rattle.planning.specs.{Plans.no_bytes, Reaching.Reaches, declared.Header.Header, declared.Phase.Phase, declared.Phase.TheVariants.InLength, declared.Phase.TheVariants.InType, declared.Phase.TheVariants.InValue, declared.Plan.Plan, declared.Reached.Reached, declared.Reached.TheVariants.Value}
unfoldable pub use Rattle.planning.specs.{Headers.first_header, Headers.short_header, Plans.held_of, Plans.is_makeable_phase, Plans.plan_head, Plans.plan_length, Plans.plan_of, Plans.plan_type, Plans.plan_value, Reaching.Within, Reaching.plan_by}
pub use Rattle.short_forms.proofs.{Short.first_long, Short.first_one, Short.first_two, Short.none_found}
unfoldable pub use Rattle.short_forms.specs.{Short.read_short}
pub use Rattle.walks.proofs.{Impossible.no_true, Impossible.zero_one}
pub use Rattle.wire.proofs.{Forms.short_exactly, Numbers.length-bytes_of, Parts.begins_whole, Parts.empty-is, Parts.parted, Parts.starts_le, Reading.front_one, Reading.front_whole, Reading.reads, Reading.split, Reading.whole_same}
pub use Rattle.short_forms.specs.{declared.Varint.Varint}
pub use Rattle.wire.specs.{Partial.partial, declared.partial.Partial.Partial, declared.partial.VarintTaken.VarintTaken, declared.partial.VarintTaken.TheVariants.Ends, declared.partial.VarintTaken.TheVariants.Impossible, declared.partial.VarintTaken.TheVariants.More}
unfoldable pub use Rattle.wire.specs.{Bytes.num, Bytes.num_from, Partial.held_bytes, Partial.is_partial, Partial.take_varint, Partial.taken_of, Varint.largest, Varint.read_varint}
