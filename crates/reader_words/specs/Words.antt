-- A reader in eight words: a mark with the role, the datagram limit, the two settings, the phase's number and three words of it, whether it is finished.
use Rattle.std.specs.Prelude.{ℕ, ◌+◌, ◌*◌, ◌%◌, Bool, cond, ◌&&◌, List, [], ◌∷◌, ◌++◌, get_or, leb, ltb, eqb, Option, Some, None}
use Rattle.wire.specs.Partial.{partial}
use Rattle.opening.specs.declared.Role.{Role}
use Rattle.opening.specs.declared.Role.TheVariants.{Endpoint, Intermediary}
use Rattle.opening.specs.declared.Opening.{Opening}
use Rattle.planning.specs.declared.Phase.{Phase}
use Rattle.planning.specs.declared.Phase.TheVariants.{InType, InLength, InValue}
use Rattle.capsule.specs.declared.reader.Reader.{Reader}
use Rattle.capsule.specs.Reader.{opening}
use Rattle.reader_words.specs.Numbers.{flag_of, bit_of}

-- ---- the stored form

-- the first word says that the words are a reader, and its role
unfoldable pub reader_mark : ℕ
reader_mark = 0x6d727a00

unfoldable pub role_word : Role → ℕ
role_word Endpoint = reader_mark
role_word Intermediary = reader_mark + 1

-- the draft setting is worth 1, taking address capsules 2
unfoldable pub settings_number : Bool → Bool → ℕ
settings_number draft addresses = bit_of draft + 2 * bit_of addresses

unfoldable pub phase_words : Phase → List ℕ
phase_words (InType part) = 0 ∷ part.have ∷ part.raw ∷ 0 ∷ []
phase_words (InLength t part) = 1 ∷ t ∷ part.have ∷ part.raw ∷ []
phase_words (InValue t n left) = 2 ∷ t ∷ n ∷ left ∷ []

unfoldable pub words_of : Reader → List ℕ
words_of r =
    role_word r.opening.role ∷ r.opening.limit ∷ settings_number r.opening.draft r.opening.addresses ∷ (phase_words r.phase ++ (bit_of r.finished ∷ []))

-- ---- reading it back (see the claims `StoredRead` and `ReadAsStored`)

-- `have` is a byte, and the word that is not used in a type is 0
unfoldable pub phase_in : ℕ → ℕ → ℕ → ℕ → Option Phase
phase_in kind a b c =
    cond (eqb kind 0)
    (cond (leb a 255 && eqb c 0) (Some (InType (partial a b))) None)
    (cond (eqb kind 1)
    (cond (leb b 255) (Some (InLength a (partial b c))) None)
    (cond (eqb kind 2) (Some (InValue a b c)) None))

unfoldable pub role_in : ℕ → Role
role_in word = cond (leb word reader_mark) Endpoint Intermediary

unfoldable pub draft_in : ℕ → Bool
draft_in settings = eqb (settings % 2) 1

unfoldable pub addresses_in : ℕ → Bool
addresses_in settings = ltb 1 settings

unfoldable pub opening_in : List ℕ → Opening
opening_in ws = opening (role_in (get_or ws 0 0)) (get_or ws 1 0) (draft_in (get_or ws 2 0)) (addresses_in (get_or ws 2 0))

unfoldable pub with_phase : ℕ → ℕ → ℕ → ℕ → Option Phase → Option Reader
with_phase role limit settings finished None = None
with_phase role limit settings finished (Some p) =
    Some (record { opening = opening (role_in role) limit (draft_in settings) (addresses_in settings); phase = p; finished = flag_of finished })

-- the role's word is one of two, finished is 0 or 1, the settings are 0 to 3
unfoldable pub reader_in : List ℕ → Option Reader
reader_in ws =
    cond ((leb reader_mark (get_or ws 0 0) && leb (get_or ws 0 0) (reader_mark + 1)) && (leb (get_or ws 2 0) 3 && leb (get_or ws 7 0) 1))
    (with_phase (get_or ws 0 0) (get_or ws 1 0) (get_or ws 2 0) (get_or ws 7 0) (phase_in (get_or ws 3 0) (get_or ws 4 0) (get_or ws 5 0) (get_or ws 6 0)))
    None
