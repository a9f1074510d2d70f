-- Blanks at the end of the first n records. Assumes nothing.
use Rattle.std.specs.List.{All}
use Rattle.walks.proofs.Words.{◌≡◌, ℕ, ◌≤◌, true, take, drop}
use Rattle.stream_survey.proofs.Terms.{StreamRecord, is_blank, Table}

abbrev pub IsBlank : StreamRecord → Type 0
IsBlank r = is_blank r ≡ true

-- none but blanks from i on
abbrev pub Occupied : Table → ℕ → ℕ → Type 0
Occupied t n i = (i ≤ n) × All IsBlank (drop i (take n t))
