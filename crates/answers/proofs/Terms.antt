-- Definitions, and laws of the crates below, that the proofs here use, passed on: one `use` in place of many.
unfoldable pub use Rattle.answers.specs.{Identifiers.quarter_answer, Identifiers.stream_answer, Messages.action_answer, Messages.field_answer, Messages.message_of, Messages.translation_answer, Numbers.end_number, Numbers.error_number, Numbers.side_of, Numbers.status_of, OneShot.ending_number, OneShot.listing_answer, Varint.varint_answer, Varint.written_answer}
