-- Definitions, and laws of the crates below, that the proofs here use, passed on: one `use` in place of many.
pub use Rattle.refusals.specs.{Numbers.number_too_large, Numbers.output_too_short, declared.Refusal.Refusal}
pub use Rattle.short_forms.proofs.{Short.first_long, Short.none_found, Short.short_none, Short.short-one, Short.short_two}
unfoldable pub use Rattle.short_forms.specs.{Short.read_short, Short.read_two}
pub use Rattle.short_forms.specs.{declared.Varint.Varint, Short.varint_of}
pub use Rattle.wire.specs.{Bytes.Bytes, Claims.EveryFormRead, Claims.FirstBytesOnly, Claims.GoesOn, Claims.ImpossibleExactly, Claims.IncompleteExactly, Claims.Leaves, Claims.LongExactly, Claims.NeverAboveLargest, Claims.OccursExactly, Claims.QuarterBounded, Claims.QuarterExactly, Claims.ReadBack, Claims.RequestExactly, Claims.ShortExactly, Claims.Shortest, Claims.VarintLeaves, Partial.partial, Units.IsRequestStream, Writing.Writing, Writing.writing, declared.partial.Partial.Partial, declared.partial.VarintTaken.TheVariants.Ends, declared.partial.VarintTaken.TheVariants.Impossible, declared.partial.VarintTaken.TheVariants.More, declared.units.Quarter.Quarter, declared.units.StreamId.StreamId}
unfoldable pub use Rattle.wire.specs.{Bytes.bytes_of, Bytes.num, Bytes.num_from, Long.long_of, Long.read_long, Partial.held_bytes, Partial.is_partial, Partial.partial_of, Partial.starts, Partial.take_varint, Partial.taken_of, Units.is_request, Units.largest_quarter, Units.quarter_of, Units.stream_of, Varint.encode, Varint.encode_as, Varint.largest, Varint.least_size, Varint.least_width, Varint.read_varint, Varint.size_of, Varint.value_of, Writing.refuses, Writing.write_at, Writing.write_varint}
