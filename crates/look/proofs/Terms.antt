-- Definitions, and laws of the crates below, that the proofs here use, passed on: one `use` in place of many.
unfoldable pub use Rattle.addresses.specs.{Addresses.is_address_type, Addresses.longest_address_value}
pub use Rattle.capsule.specs.{Grammar.Parts, Grammar.Stage, Grammar.in_length, Grammar.in_value, Grammar.part, declared.reader.Reader.Reader}
unfoldable pub use Rattle.capsule.specs.{Book.parts_for, Grammar.capsule_at, Grammar.cut_by, Grammar.front_by, Grammar.parts_by, Reader.is_makeable, Reader.is_opening, State.phase_at, State.phase_of, State.reader_of}
pub use Rattle.capsule_laws.proofs.{Addresses.gathers_exactly, Addresses.keeps_exactly, Appending.Shows, Appending.one, Appending.parts-ends, Appending.parts_goes, Appending.tail_shows, Grammar.head_fits, Grammar.head_stays, Grammar.sees_length, Grammar.sees_type, Grammar.sees_value, Grammar.sees_whole, Lists.made-stream, Makeable.makeable_exactly}
pub use Rattle.capsule_laws.specs.{AddressClaims.IsAddress, AddressClaims.IsDatagram, Claims.Makes}
pub use Rattle.look.specs.{Cases.Cases, Claims.BufferExactly, Claims.BufferOf, Claims.Completes, Claims.FinishedSeen, Claims.LookOfStream, Claims.RefusedExactly, Claims.StoredExactly, Claims.ToComeCompletes, declared.Buffer.Buffer, declared.Place.TheVariants.Between, declared.Place.TheVariants.InType, declared.Place.TheVariants.InValue, declared.Sight.Sight}
unfoldable pub use Rattle.look.specs.{Claims.marked, Claims.place_at, Claims.place_in, Claims.seen_marked, Claims.within_at, Looking.buffer_of, Looking.look_of, Looking.place_of, Looking.sight_of, Looking.stored_in}
pub use Rattle.opening.specs.{declared.Kind.Kind, declared.Kind.TheVariants.Address, declared.Kind.TheVariants.Datagram, declared.Kind.TheVariants.Unknown, declared.Opening.Opening}
unfoldable pub use Rattle.opening.specs.{Kinds.extent_by, Kinds.extent_of, Kinds.gathers, Kinds.gathers_by, Kinds.keeps, Kinds.keeps_by, Kinds.kind_of, Kinds.opted, Kinds.opted_by}
pub use Rattle.planning.proofs.{Planning.makeable_value}
pub use Rattle.planning.specs.{declared.Phase.Phase}
unfoldable pub use Rattle.planning.specs.{Plans.is_makeable_phase}
pub use Rattle.refusals.specs.{Numbers.unmakeable_state}
pub use Rattle.walks.proofs.{Impossible.no_true, Impossible.zero_one}
pub use Rattle.wire.proofs.{Parts.both, Parts.parted, Reading.no_whole_nil}
unfoldable pub use Rattle.wire.specs.{Bytes.num, Bytes.num_from, Partial.is_partial, Partial.partial_of, Partial.starts, Varint.largest, Varint.read_varint, Varint.size_of, Varint.value_of}
