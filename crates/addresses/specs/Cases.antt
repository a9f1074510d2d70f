-- Values, and whether they are well formed.
use Rattle.std.specs.Prelude.{ℕ, zero, suc, ◌≡◌, Bool, true, false, List, [], ◌∷◌, map}
use Rattle.std.specs.Option.{option_map}
use Rattle.std.specs.Prelude.{Some}
use Rattle.addresses.specs.Addresses.{is_address_type, well_formed, entries}
use Rattle.addresses.specs.Sizes.{SizedEntry, sized_at}

-- n entries with request IDs of two bytes, and then others
unfoldable pub many : ℕ → List ℕ → List ℕ
many zero v = v
many (suc n) v = 64 ∷ 1 ∷ 4 ∷ 10 ∷ 0 ∷ 0 ∷ 1 ∷ 32 ∷ many n v

-- and of one byte
unfoldable pub short : ℕ → List ℕ
short zero = []
short (suc n) = 1 ∷ 4 ∷ 10 ∷ 0 ∷ 0 ∷ 1 ∷ 32 ∷ short n

-- a range of IP version 6, and then others
abbrev six : ℕ → ℕ → ℕ → List ℕ → List ℕ
six start end protocol v = 6 ∷ 0 ∷ 0 ∷ 0 ∷ 0 ∷ 0 ∷ 0 ∷ 0 ∷ 0 ∷ 0 ∷ 0 ∷ 0 ∷ 0 ∷ 0 ∷ 0 ∷ 0 ∷ start ∷ 0 ∷ 0 ∷ 0 ∷ 0 ∷ 0 ∷ 0 ∷ 0 ∷ 0 ∷ 0 ∷ 0 ∷ 0 ∷ 0 ∷ 0 ∷ 0 ∷ 0 ∷ end ∷ protocol ∷ v

pub record Value : Type 0 where
  pub ctype : ℕ
  pub bytes : List ℕ
  pub good : Bool

abbrev value : ℕ → List ℕ → Bool → Value
value t v g = record { ctype = t; bytes = v; good = g }

abbrev values : List Value
values =
    value 1 ([]) true ∷
    value 1 (0 ∷ 4 ∷ 10 ∷ 0 ∷ 0 ∷ 1 ∷ 32 ∷ []) true ∷
    value 1 (0 ∷ 4 ∷ 10 ∷ 0 ∷ 0 ∷ 1 ∷ 33 ∷ []) false ∷
    value 1 (0 ∷ 4 ∷ 10 ∷ 0 ∷ 0 ∷ 1 ∷ 31 ∷ []) false ∷
    value 1 (0 ∷ 4 ∷ 128 ∷ 0 ∷ 0 ∷ 0 ∷ 0 ∷ []) false ∷
    value 1 (0 ∷ 4 ∷ 255 ∷ 255 ∷ 255 ∷ 128 ∷ 25 ∷ []) true ∷
    value 1 (0 ∷ 4 ∷ 255 ∷ 255 ∷ 255 ∷ 192 ∷ 25 ∷ []) false ∷
    value 1 (0 ∷ 6 ∷ 0 ∷ 0 ∷ 0 ∷ 0 ∷ 0 ∷ 0 ∷ 0 ∷ 0 ∷ 0 ∷ 0 ∷ 0 ∷ 0 ∷ 0 ∷ 0 ∷ 0 ∷ 0 ∷ 129 ∷ []) false ∷
    value 1 (0 ∷ 6 ∷ 0 ∷ 0 ∷ 0 ∷ 0 ∷ 0 ∷ 0 ∷ 0 ∷ 0 ∷ 0 ∷ 0 ∷ 0 ∷ 0 ∷ 0 ∷ 0 ∷ 0 ∷ 0 ∷ 128 ∷ []) true ∷
    value 1 (0 ∷ 4 ∷ 10 ∷ 0 ∷ 0 ∷ 1 ∷ 32 ∷ 0 ∷ []) false ∷
    value 1 (0 ∷ 5 ∷ 10 ∷ 0 ∷ 0 ∷ 1 ∷ 32 ∷ []) false ∷
    value 2 ([]) false ∷
    value 2 (0 ∷ 4 ∷ 10 ∷ 0 ∷ 0 ∷ 1 ∷ 32 ∷ []) false ∷
    value 2 (64 ∷ 0 ∷ 4 ∷ 10 ∷ 0 ∷ 0 ∷ 1 ∷ 32 ∷ []) false ∷
    value 2 (64 ∷ 1 ∷ 4 ∷ 10 ∷ 0 ∷ 0 ∷ 1 ∷ 32 ∷ []) true ∷
    value 3 ([]) true ∷
    value 3 (4 ∷ 10 ∷ 0 ∷ 0 ∷ 0 ∷ 10 ∷ 0 ∷ 0 ∷ 5 ∷ 17 ∷ 4 ∷ 10 ∷ 0 ∷ 0 ∷ 5 ∷ 10 ∷ 0 ∷ 0 ∷ 9 ∷ 17 ∷ []) false ∷
    value 3 (4 ∷ 10 ∷ 0 ∷ 0 ∷ 0 ∷ 10 ∷ 0 ∷ 0 ∷ 5 ∷ 17 ∷ 4 ∷ 10 ∷ 0 ∷ 0 ∷ 6 ∷ 10 ∷ 0 ∷ 0 ∷ 9 ∷ 17 ∷ []) true ∷
    value 3 (4 ∷ 10 ∷ 0 ∷ 0 ∷ 0 ∷ 10 ∷ 0 ∷ 0 ∷ 5 ∷ 6 ∷ 4 ∷ 10 ∷ 0 ∷ 0 ∷ 0 ∷ 10 ∷ 0 ∷ 0 ∷ 5 ∷ 17 ∷ []) true ∷
    value 3 (4 ∷ 10 ∷ 0 ∷ 0 ∷ 0 ∷ 10 ∷ 0 ∷ 0 ∷ 5 ∷ 17 ∷ 4 ∷ 10 ∷ 0 ∷ 0 ∷ 0 ∷ 10 ∷ 0 ∷ 0 ∷ 5 ∷ 6 ∷ []) false ∷
    value 3 (4 ∷ 10 ∷ 0 ∷ 0 ∷ 0 ∷ 10 ∷ 0 ∷ 0 ∷ 9 ∷ 0 ∷ 4 ∷ 10 ∷ 0 ∷ 0 ∷ 9 ∷ 10 ∷ 0 ∷ 0 ∷ 10 ∷ 17 ∷ []) false ∷
    value 3 (4 ∷ 10 ∷ 0 ∷ 0 ∷ 0 ∷ 10 ∷ 0 ∷ 0 ∷ 9 ∷ 0 ∷ 4 ∷ 10 ∷ 0 ∷ 0 ∷ 10 ∷ 10 ∷ 0 ∷ 0 ∷ 10 ∷ 17 ∷ []) true ∷
    value 3 (6 ∷ 0 ∷ 0 ∷ 0 ∷ 0 ∷ 0 ∷ 0 ∷ 0 ∷ 0 ∷ 0 ∷ 0 ∷ 0 ∷ 0 ∷ 0 ∷ 0 ∷ 0 ∷ 0 ∷ 0 ∷ 0 ∷ 0 ∷ 0 ∷ 0 ∷ 0 ∷ 0 ∷ 0 ∷ 0 ∷ 0 ∷ 0 ∷ 0 ∷ 0 ∷ 0 ∷ 0 ∷ 0 ∷ 0 ∷ 4 ∷ 10 ∷ 0 ∷ 0 ∷ 0 ∷ 10 ∷ 0 ∷ 0 ∷ 5 ∷ 17 ∷ []) false ∷
    value 3 (4 ∷ 0 ∷ 0 ∷ 0 ∷ 0 ∷ 255 ∷ 255 ∷ 255 ∷ 255 ∷ 255 ∷ 6 ∷ 0 ∷ 0 ∷ 0 ∷ 0 ∷ 0 ∷ 0 ∷ 0 ∷ 0 ∷ 0 ∷ 0 ∷ 0 ∷ 0 ∷ 0 ∷ 0 ∷ 0 ∷ 0 ∷ 255 ∷ 255 ∷ 255 ∷ 255 ∷ 255 ∷ 255 ∷ 255 ∷ 255 ∷ 255 ∷ 255 ∷ 255 ∷ 255 ∷ 255 ∷ 255 ∷ 255 ∷ 255 ∷ 0 ∷ []) true ∷
    value 3 (4 ∷ 10 ∷ 0 ∷ 0 ∷ 5 ∷ 10 ∷ 0 ∷ 0 ∷ 4 ∷ 17 ∷ []) false ∷
    value 3 (4 ∷ 10 ∷ 0 ∷ 0 ∷ 5 ∷ 10 ∷ 0 ∷ 0 ∷ 5 ∷ []) false ∷
    value 3 (4 ∷ 10 ∷ 0 ∷ 0 ∷ 0 ∷ 10 ∷ 0 ∷ 0 ∷ 5 ∷ 0 ∷ 4 ∷ 10 ∷ 0 ∷ 0 ∷ 8 ∷ 10 ∷ 0 ∷ 0 ∷ 9 ∷ 0 ∷ 4 ∷ 10 ∷ 0 ∷ 0 ∷ 6 ∷ 10 ∷ 0 ∷ 0 ∷ 7 ∷ 6 ∷ 4 ∷ 10 ∷ 0 ∷ 0 ∷ 10 ∷ 10 ∷ 0 ∷ 0 ∷ 11 ∷ 17 ∷ []) true ∷
    value 3 (4 ∷ 10 ∷ 0 ∷ 0 ∷ 0 ∷ 10 ∷ 0 ∷ 0 ∷ 5 ∷ 0 ∷ 4 ∷ 10 ∷ 0 ∷ 0 ∷ 8 ∷ 10 ∷ 0 ∷ 0 ∷ 9 ∷ 0 ∷ 4 ∷ 10 ∷ 0 ∷ 0 ∷ 6 ∷ 10 ∷ 0 ∷ 0 ∷ 7 ∷ 6 ∷ 4 ∷ 10 ∷ 0 ∷ 0 ∷ 5 ∷ 10 ∷ 0 ∷ 0 ∷ 6 ∷ 17 ∷ []) false ∷
    value 1 (0 ∷ 4 ∷ 0 ∷ 0 ∷ 0 ∷ 0 ∷ []) false ∷
    value 1 (0 ∷ 5 ∷ 0 ∷ []) false ∷
    value 3 (4 ∷ 10 ∷ 0 ∷ 0 ∷ 5 ∷ 10 ∷ 0 ∷ 0 ∷ 9 ∷ 0 ∷ 4 ∷ 10 ∷ 0 ∷ 0 ∷ 4 ∷ 10 ∷ 0 ∷ 0 ∷ 5 ∷ 17 ∷ []) false ∷
    value 3 (4 ∷ 10 ∷ 0 ∷ 0 ∷ 0 ∷ 10 ∷ 0 ∷ 0 ∷ 5 ∷ 6 ∷ 4 ∷ 10 ∷ 0 ∷ 0 ∷ 0 ∷ 10 ∷ 0 ∷ 0 ∷ 5 ∷ 17 ∷ 4 ∷ 10 ∷ 0 ∷ 0 ∷ 5 ∷ 10 ∷ 0 ∷ 0 ∷ 9 ∷ 17 ∷ []) false ∷
    value 1 (64 ∷ 0 ∷ 4 ∷ 10 ∷ 0 ∷ 0 ∷ 1 ∷ 32 ∷ []) true ∷
    value 2 (128 ∷ 0 ∷ 0 ∷ 0 ∷ 4 ∷ 10 ∷ 0 ∷ 0 ∷ 1 ∷ 32 ∷ []) false ∷
    value 2 (192 ∷ 0 ∷ 0 ∷ 0 ∷ 0 ∷ 0 ∷ 0 ∷ 0 ∷ 4 ∷ 10 ∷ 0 ∷ 0 ∷ 1 ∷ 32 ∷ []) false ∷
    value 2 (128 ∷ 0 ∷ 0 ∷ 1 ∷ 4 ∷ 10 ∷ 0 ∷ 0 ∷ 1 ∷ 32 ∷ []) true ∷
    value 2 (192 ∷ 0 ∷ 0 ∷ 0 ∷ 0 ∷ 0 ∷ 0 ∷ 1 ∷ 4 ∷ 10 ∷ 0 ∷ 0 ∷ 1 ∷ 32 ∷ []) true ∷
    value 2 (1 ∷ 4 ∷ 0 ∷ 0 ∷ 0 ∷ 0 ∷ 0 ∷ []) true ∷
    value 2 (1 ∷ 4 ∷ 10 ∷ 0 ∷ 0 ∷ 1 ∷ 32 ∷ 0 ∷ 4 ∷ 10 ∷ 0 ∷ 0 ∷ 2 ∷ 32 ∷ []) false ∷
    value 1 (1 ∷ 4 ∷ 10 ∷ 0 ∷ 0 ∷ 1 ∷ 32 ∷ 1 ∷ 4 ∷ 10 ∷ 0 ∷ 0 ∷ 1 ∷ 32 ∷ []) true ∷
    value 1 (64 ∷ []) false ∷
    value 1 (0 ∷ []) false ∷
    value 1 (0 ∷ 6 ∷ 32 ∷ 1 ∷ 13 ∷ 184 ∷ 0 ∷ 0 ∷ 0 ∷ 0 ∷ 0 ∷ 0 ∷ 0 ∷ 0 ∷ 0 ∷ 0 ∷ 0 ∷ 0 ∷ 32 ∷ []) true ∷
    value 1 (0 ∷ 6 ∷ 32 ∷ 1 ∷ 13 ∷ 184 ∷ 0 ∷ 0 ∷ 0 ∷ 0 ∷ 0 ∷ 0 ∷ 0 ∷ 0 ∷ 0 ∷ 0 ∷ 0 ∷ 1 ∷ 127 ∷ []) false ∷
    value 1 (0 ∷ 6 ∷ 32 ∷ 1 ∷ 13 ∷ 184 ∷ 0 ∷ 0 ∷ 0 ∷ 0 ∷ 0 ∷ 0 ∷ 0 ∷ 0 ∷ 0 ∷ 0 ∷ 0 ∷ 1 ∷ 128 ∷ []) true ∷
    value 1 (0 ∷ 6 ∷ 32 ∷ 1 ∷ 13 ∷ 184 ∷ 0 ∷ 0 ∷ 0 ∷ 1 ∷ 0 ∷ 0 ∷ 0 ∷ 0 ∷ 0 ∷ 0 ∷ 0 ∷ 0 ∷ 63 ∷ []) false ∷
    value 1 (0 ∷ 6 ∷ 32 ∷ 1 ∷ 13 ∷ 184 ∷ 0 ∷ 0 ∷ 0 ∷ 1 ∷ 0 ∷ 0 ∷ 0 ∷ 0 ∷ 0 ∷ 0 ∷ 0 ∷ 0 ∷ 64 ∷ []) true ∷
    value 1 (0 ∷ 6 ∷ 32 ∷ 1 ∷ 13 ∷ 184 ∷ 0 ∷ 0 ∷ 0 ∷ 0 ∷ 0 ∷ 0 ∷ 0 ∷ 0 ∷ 0 ∷ 0 ∷ 0 ∷ 32 ∷ []) false ∷
    value 3 (4 ∷ []) false ∷
    value 3 (5 ∷ 10 ∷ 0 ∷ 0 ∷ 0 ∷ 10 ∷ 0 ∷ 0 ∷ 5 ∷ 17 ∷ []) false ∷
    value 3 (4 ∷ 10 ∷ 0 ∷ 0 ∷ 0 ∷ 10 ∷ 0 ∷ 0 ∷ 5 ∷ 17 ∷ 0 ∷ []) false ∷
    value 3 (4 ∷ 10 ∷ 0 ∷ 0 ∷ 5 ∷ 10 ∷ 0 ∷ 0 ∷ 5 ∷ 0 ∷ []) true ∷
    value 3 (6 ∷ 32 ∷ 1 ∷ 13 ∷ 184 ∷ 0 ∷ 0 ∷ 0 ∷ 0 ∷ 0 ∷ 0 ∷ 0 ∷ 0 ∷ 0 ∷ 0 ∷ 0 ∷ 0 ∷ 32 ∷ 1 ∷ 13 ∷ 184 ∷ 255 ∷ 255 ∷ 255 ∷ 255 ∷ 255 ∷ 255 ∷ 255 ∷ 255 ∷ 255 ∷ 255 ∷ 255 ∷ 255 ∷ 58 ∷ []) true ∷
    value 3 (6 ∷ 32 ∷ 1 ∷ 13 ∷ 184 ∷ 0 ∷ 0 ∷ 0 ∷ 0 ∷ 0 ∷ 0 ∷ 0 ∷ 0 ∷ 0 ∷ 0 ∷ 0 ∷ 1 ∷ 32 ∷ 1 ∷ 13 ∷ 184 ∷ 0 ∷ 0 ∷ 0 ∷ 0 ∷ 0 ∷ 0 ∷ 0 ∷ 0 ∷ 0 ∷ 0 ∷ 0 ∷ 0 ∷ 58 ∷ []) false ∷
    value 3 (4 ∷ 10 ∷ 0 ∷ 0 ∷ 0 ∷ 10 ∷ 0 ∷ 0 ∷ 9 ∷ 17 ∷ 6 ∷ 0 ∷ 0 ∷ 0 ∷ 0 ∷ 0 ∷ 0 ∷ 0 ∷ 0 ∷ 0 ∷ 0 ∷ 0 ∷ 0 ∷ 0 ∷ 0 ∷ 0 ∷ 0 ∷ 0 ∷ 0 ∷ 0 ∷ 0 ∷ 0 ∷ 0 ∷ 0 ∷ 0 ∷ 0 ∷ 0 ∷ 0 ∷ 0 ∷ 0 ∷ 0 ∷ 0 ∷ 0 ∷ 0 ∷ []) true ∷
    value 2 (1 ∷ 4 ∷ 10 ∷ 0 ∷ 0 ∷ 1 ∷ 31 ∷ []) false ∷
    value 2 (1 ∷ 4 ∷ 10 ∷ 0 ∷ 0 ∷ 1 ∷ 32 ∷ 2 ∷ 4 ∷ 10 ∷ 0 ∷ 0 ∷ 1 ∷ 31 ∷ []) false ∷
    value 3 (4 ∷ 10 ∷ 0 ∷ 0 ∷ 0 ∷ 10 ∷ 0 ∷ 0 ∷ 5 ∷ 17 ∷ 4 ∷ 10 ∷ 0 ∷ 0 ∷ 6 ∷ 10 ∷ 0 ∷ 0 ∷ 9 ∷ 6 ∷ []) false ∷
    value 3 (4 ∷ 10 ∷ 0 ∷ 0 ∷ 0 ∷ 10 ∷ 0 ∷ 0 ∷ 1 ∷ 0 ∷ 4 ∷ 10 ∷ 0 ∷ 0 ∷ 4 ∷ 10 ∷ 0 ∷ 0 ∷ 6 ∷ 0 ∷ 4 ∷ 10 ∷ 0 ∷ 0 ∷ 5 ∷ 10 ∷ 0 ∷ 0 ∷ 5 ∷ 17 ∷ []) false ∷
    value 3 (4 ∷ 10 ∷ 0 ∷ 0 ∷ 0 ∷ 10 ∷ 0 ∷ 0 ∷ 1 ∷ 0 ∷ 4 ∷ 10 ∷ 0 ∷ 0 ∷ 4 ∷ 10 ∷ 0 ∷ 0 ∷ 6 ∷ 0 ∷ 4 ∷ 10 ∷ 0 ∷ 0 ∷ 7 ∷ 10 ∷ 0 ∷ 0 ∷ 7 ∷ 17 ∷ []) true ∷
    -- 1,024 bytes are the longest value; 122 entries of 8 bytes and 7 of 7 bytes are 1,025; a last entry counts
    value 2 (many 128 []) true ∷
    value 1 (many 121 (short 8)) true ∷
    value 1 (many 122 (short 7)) false ∷
    value 1 (many 127 (64 ∷ 1 ∷ 4 ∷ 10 ∷ 0 ∷ 0 ∷ 1 ∷ 33 ∷ [])) false ∷
    -- other types
    value 4 [] false ∷
    value 0 [] false ∷
    -- ranges of IP version 6: they touch, they do not, the protocol falls, one for all protocols overlaps, or does not
    value 3 (six 0 5 17 (six 5 9 17 [])) false ∷
    value 3 (six 0 5 17 (six 6 9 17 [])) true ∷
    value 3 (six 0 5 17 (six 6 9 6 [])) false ∷
    value 3 (six 0 5 0 (six 5 9 17 [])) false ∷
    value 3 (six 0 5 0 (six 6 9 17 [])) true ∷
    value 3 (six 6 5 17 []) false ∷
    []

abbrev pub AllValues : Type 0
AllValues = map (λ v. well_formed v.ctype v.bytes) values ≡ map (λ v. v.good) values

-- types 1, 2 and 3, and those beside them
abbrev pub Types : Type 0
Types = map is_address_type (0 ∷ 1 ∷ 2 ∷ 3 ∷ 4 ∷ []) ≡ false ∷ true ∷ true ∷ true ∷ false ∷ []

-- an entry of each version: 7 and 20 bytes
abbrev pub two_addresses : List ℕ
two_addresses = 5 ∷ 4 ∷ 10 ∷ 0 ∷ 0 ∷ 1 ∷ 32 ∷ 64 ∷ 1 ∷ 6 ∷ 32 ∷ 1 ∷ 13 ∷ 184 ∷ 0 ∷ 0 ∷ 0 ∷ 0 ∷ 0 ∷ 0 ∷ 0 ∷ 0 ∷ 0 ∷ 0 ∷ 0 ∷ 1 ∷ 128 ∷ []

-- request IDs in 1 and 2 bytes
abbrev pub WidthsRead : Type 0
WidthsRead = option_map (map (λ (s : SizedEntry). s.width)) (entries sized_at two_addresses) ≡ Some (0 ∷ 1 ∷ [])
