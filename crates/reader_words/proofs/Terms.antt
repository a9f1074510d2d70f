-- Definitions, and laws of the crates below, that the proofs here use, passed on: one `use` in place of many.
pub use Rattle.capsule.specs.{Reader.fresh, declared.reader.Reader.Reader}
pub use Rattle.fast_paths.specs.{FastPaths.in_value}
pub use Rattle.opening.specs.{declared.Role.Role, declared.Role.TheVariants.Endpoint, declared.Role.TheVariants.Intermediary}
pub use Rattle.planning.specs.{declared.Phase.Phase, declared.Phase.TheVariants.InLength, declared.Phase.TheVariants.InType, declared.Phase.TheVariants.InValue}
pub use Rattle.reader_words.specs.{Claims.HaveIsByte, Claims.PositionRead, Claims.ReadAsStored, Claims.StoredRead, declared.words.Position.Position, declared.words.Position.TheVariants.Between, declared.words.Position.TheVariants.Other, declared.words.Position.TheVariants.Within}
unfoldable pub use Rattle.reader_words.specs.{Claims.ReadAt, Numbers.bit_of, Numbers.flag_of, Numbers.role_of, Position.is_between_in, Position.is_open_in, Position.position_of, Words.addresses_in, Words.draft_in, Words.opening_in, Words.phase_in, Words.phase_words, Words.reader_in, Words.reader_mark, Words.role_in, Words.role_word, Words.settings_number, Words.with_phase, Words.words_of}
pub use Rattle.walks.proofs.{Impossible.zero_one}
pub use Rattle.wire.proofs.{Parts.parted}
pub use Rattle.wire.specs.{Partial.partial}
