-- Definitions, and laws of the crates below, that the proofs here use, passed on: one `use` in place of many.
pub use Rattle.capsule.specs.declared.reader.Ending.TheVariants.{Clean, Truncated}
pub use Rattle.capsule.specs.{Book.Book, Calls.Reply, Calls.close, Calls.closed, Grammar.Capsule, Grammar.Parts, Grammar.Stage, Grammar.in_length, Grammar.in_type, Grammar.in_value, Grammar.part, Grammar.parts, Grammar.plain, Grammar.whole, Reader.opening, declared.reader.Reader.Reader}
unfoldable pub use Rattle.capsule.specs.{Book.book_close, Book.end_of, Book.parts_for, Calls.run, Grammar.capsule_at, Grammar.cut_by, Grammar.front_by, Grammar.parts_by, Reader.reader_call, State.of_book, State.reader_of}
pub use Rattle.capsule_laws.proofs.{Counts.counted, Counts.unfinished_grammar, Grammar.Sees, Grammar.complete, Grammar.next, Grammar.parts_cut, Grammar.parts_is, Grammar.parts_nil, Grammar.parts_part, Grammar.sees_length, Grammar.sees_type, Grammar.sees_value, Grammar.sees_whole, Grammar.split_right, Lists.Open, Lists.closed_same, Lists.open_fresh, States.made_calls}
pub use Rattle.capsule_laws.specs.{Claims.AllRead}
unfoldable pub use Rattle.capsule_laws.specs.{Claims.consumed_in, Claims.joined}
pub use Rattle.one_shot_listing.specs.{Cases.Cases, Claims.AgreesWithReader, Claims.HeadersExactly, Cycle.HeadRead, Cycle.TypeRead, Listing.longest_buffer}
unfoldable pub use Rattle.one_shot_listing.specs.{Claims.value_bytes, Cycle.onwards, Listing.ending_of, Listing.header_bytes, Listing.listing_of}
pub use Rattle.planning.proofs.{Planning.rest_of}
pub use Rattle.refusals.specs.{Numbers.buffer_too_long}
pub use Rattle.wire.proofs.{Reading.reads}
unfoldable pub use Rattle.wire.specs.{Bytes.num, Bytes.num_from, Varint.read_varint, Varint.size_of, Varint.value_of}
