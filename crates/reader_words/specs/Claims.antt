-- What holds of the stored form of a reader. Each claim is a type here, and is proved in proofs/StoredForm.antt or proofs/Position.antt under its name in lower case with dashes.
use Prim.{Unit}
use Rattle.std.specs.Prelude.{ℕ, ◌≤◌, ◌≡◌, List, length, get_or, Some}
use Rattle.planning.specs.declared.Phase.{Phase}
use Rattle.planning.specs.declared.Phase.TheVariants.{InType, InLength, InValue}
use Rattle.capsule.specs.declared.reader.Reader.{Reader}
use Rattle.capsule.specs.Reader.{fresh}
use Rattle.fast_paths.specs.FastPaths.{in_value}
use Rattle.reader_words.specs.Words.{words_of, reader_in, opening_in}
use Rattle.reader_words.specs.declared.words.Position.{Position}
use Rattle.reader_words.specs.declared.words.Position.TheVariants.{Other, Between, Within}
use Rattle.reader_words.specs.Position.{position_of}

-- a partial varint's `have` is a byte in the code
abbrev pub HaveIsByte : Phase → Type 0
HaveIsByte (InType part) = part.have ≤ 255
HaveIsByte (InLength t part) = part.have ≤ 255
HaveIsByte (InValue t n left) = Unit {0}

-- what was stored is read back
abbrev pub StoredRead : Type 0
StoredRead = (r : Reader) → HaveIsByte r.phase → reader_in (words_of r) ≡ Some r

-- and nothing else is read as that reader
abbrev pub ReadAsStored : Type 0
ReadAsStored = (ws : List ℕ) (r : Reader) → length ws ≡ 8 → reader_in ws ≡ Some r → words_of r ≡ ws

-- what reader the words are between two capsules and within a value
unfoldable pub ReadAt : List ℕ → Position → Type 0
ReadAt ws Other = Unit {0}
ReadAt ws Between = reader_in ws ≡ Some (fresh (opening_in ws))
ReadAt ws Within = reader_in ws ≡ Some (in_value (opening_in ws) (get_or ws 4 0) (get_or ws 5 0) (get_or ws 6 0))

abbrev pub PositionRead : Type 0
PositionRead = (ws : List ℕ) → ReadAt ws (position_of ws)
