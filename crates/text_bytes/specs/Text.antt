-- A quoted text as bytes.
use Rattle.std.specs.Prelude.{ℕ, List, [], ◌∷◌}
use Prim.Native.Char.{code}
use Prim.Native.String.{String, [] as nothing, ◌∷◌ as ◌then◌}

-- the codes of its characters: the texts here are ASCII, in which a character is one byte
unfoldable pub text : String → List ℕ
text nothing = []
text (c then s) = code c ∷ text s
