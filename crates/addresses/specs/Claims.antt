-- What holds of the definitions: each claim is a type here, and is proved in proofs/ under the name given.
use Rattle.std.specs.Prelude.{◌≡◌, ℕ, ◌-◌, ◌*◌, ◌%◌, ◌^◌, ◌≤◌, ◌<◌, List, [], ◌∷◌, map, length, eqb}
use Rattle.std.specs.Option.{option_map}
use Rattle.std.specs.Prelude.{Some}
use Rattle.wire.specs.Bytes.{Bytes, num}
use Rattle.wire.specs.Varint.{least_width}
use Rattle.addresses.specs.Addresses.{Step, entries, width_of, Entry, entry_at, clear_beyond, Range, range_at}
use Rattle.addresses.specs.Encoding.{entry_bytes, range_bytes, value_bytes}
use Rattle.addresses.specs.Sizes.{SizedEntry, sized_at, sized_bytes}

-- ---- values and their entries (proofs/Encoding.antt, proofs/ReadBack.antt)

-- of each element
abbrev pub Each : {A : Type 0} → (A → Type 0) → List A → Type 0
Each P [] = Unit {0}
Each P (e ∷ es) = P e × Each P es

-- the ID fits its size, the version is 4 or 6, and the address has its width
abbrev pub IsEntry : SizedEntry → Type 0
IsEntry s =
    let e = s.entry in
    (s.width ≤ 3) × (e.id < 2 ^ (8 * 2 ^ s.width - 2)) × (0 < width_of e.version) × (length e.address ≡ width_of e.version)

-- the version is 4 or 6, and the addresses fit its width
abbrev pub IsRange : Range → Type 0
IsRange r = let w = width_of r.version in (0 < w) × (r.start < 256 ^ w) × (r.end < 256 ^ w)

-- a value is the bytes of its entries, and they are such entries
abbrev pub IsBytesOf : {A : Type 0} → (List ℕ → Step A) → (A → List ℕ) → (A → Type 0) → Type 0
IsBytesOf {A} read bytes Is = (v : List ℕ) (es : List A) → Bytes v → entries read v ≡ Some es → (v ≡ value_bytes bytes es) × Each Is es

-- of ASSIGN and REQUEST, each request ID in the size in which it stands
abbrev pub NothingLost : Type 0
NothingLost = IsBytesOf sized_at sized_bytes IsEntry × IsBytesOf range_at range_bytes IsRange

-- and the bytes of entries are read as those entries
abbrev pub ReadsBack : {A : Type 0} → (List ℕ → Step A) → (A → List ℕ) → (A → Type 0) → Type 0
ReadsBack {A} read bytes Is = (es : List A) → Each Is es → entries read (value_bytes bytes es) ≡ Some es

abbrev pub EveryValueRead : Type 0
EveryValueRead = ReadsBack sized_at sized_bytes IsEntry × ReadsBack range_at range_bytes IsRange

-- the sizes stand beside the entries that the value has without them
abbrev pub SizesBeside : Type 0
SizesBeside = (v : List ℕ) → option_map (map (λ (s : SizedEntry). s.entry)) (entries sized_at v) ≡ entries entry_at v

-- entries as they are written have each ID in its least size
abbrev pub WrittenShortest : Type 0
WrittenShortest = (e : Entry) → entry_bytes e ≡ sized_bytes (record { width = least_width e.id; entry = e })

-- two values with the same entries are one
abbrev pub Decides : {A : Type 0} → (List ℕ → Step A) → Type 0
Decides {A} read = (u v : List ℕ) (es : List A) → Bytes u → Bytes v → entries read u ≡ Some es → entries read v ≡ Some es → u ≡ v

abbrev pub EntriesDecide : Type 0
EntriesDecide = Decides sized_at × Decides range_at

-- ---- bits beyond a prefix (proofs/Bits.antt)

-- all are 0 exactly if 2 to their number divides the address's number
abbrev pub BitsBeyond : Type 0
BitsBeyond = (prefix : ℕ) (a : List ℕ) → Bytes a → clear_beyond prefix a ≡ eqb (num a % 2 ^ (8 * length a - prefix)) 0
