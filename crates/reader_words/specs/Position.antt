-- Where an open reader is, as far as the first step of a feeding goes by it.
use Rattle.std.specs.Prelude.{ℕ, ◌+◌, Bool, cond, ◌&&◌, List, get_or, leb, eqb}
use Rattle.reader_words.specs.declared.words.Position.{Position}
use Rattle.reader_words.specs.declared.words.Position.TheVariants.{Other, Between, Within}
use Rattle.reader_words.specs.Words.{reader_mark}

-- the mark, the settings without address capsules, and not finished
unfoldable pub is_open_in : List ℕ → Bool
is_open_in ws = (leb reader_mark (get_or ws 0 0) && leb (get_or ws 0 0) (reader_mark + 1)) && (leb (get_or ws 2 0) 1 && eqb (get_or ws 7 0) 0)

-- no byte of a type came
unfoldable pub is_between_in : List ℕ → Bool
is_between_in ws = (eqb (get_or ws 3 0) 0 && eqb (get_or ws 4 0) 0) && (eqb (get_or ws 5 0) 0 && eqb (get_or ws 6 0) 0)

unfoldable pub position_of : List ℕ → Position
position_of ws = cond (is_open_in ws) (cond (eqb (get_or ws 3 0) 2) Within (cond (is_between_in ws) Between Other)) Other
