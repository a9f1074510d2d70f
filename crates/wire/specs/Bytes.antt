-- Bytes and big-endian numbers.
use Rattle.std.specs.Prelude.{ℕ, zero, suc, ◌+◌, ◌*◌, ◌/◌, ◌%◌, ◌^◌, ◌<◌, List, [], ◌∷◌}

-- every element is a byte
abbrev pub Bytes : List ℕ → Type 0
Bytes [] = Unit {0}
Bytes (b ∷ s) = (b < 256) × Bytes s

-- the big-endian number that goes on from n by the bytes of s
unfoldable pub num_from : ℕ → List ℕ → ℕ
num_from n [] = n
num_from n (b ∷ s) = num_from (n * 256 + b) s

unfoldable pub num : List ℕ → ℕ
num s = num_from 0 s

-- the last k bytes of the number n, big-endian
unfoldable pub bytes_of : ℕ → ℕ → List ℕ
bytes_of zero n = []
bytes_of (suc k) n = n / 256 ^ k % 256 ∷ bytes_of k n
