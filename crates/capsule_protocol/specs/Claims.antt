-- What holds of the definitions, at every byte string. Each claim is a type here, and is proved in the file given under its name in lower case
-- with underscores.
use Rattle.std.specs.Prelude.{◌≡◌, ◌↔◌, ◌⊎◌, ℕ, ◌+◌, ◌≤◌, ◌<◌, true, false, ◌||◌, List, [], ◌∷◌, ◌++◌, length, get_or, replicate, Ok, Err}
use Rattle.capsule_protocol.specs.Rules.{Rule, Class, empty, one, every, up_to, ◌then◌, many}
use Rattle.refusals.specs.Numbers.{field_too_long}
use Rattle.capsule_protocol.specs.Bytes.{is, is_digit, is_key_start, is_key_byte, is_unescaped, is_escapable, is_token_start, is_token_byte, is_base64}
use Rattle.capsule_protocol.specs.Items.{sf_integer, sf_decimal, chr, sf_string, sf_token, sf_binary, sf_boolean, bare_item, key, parameter, parameters, sf_item}
use Rattle.capsule_protocol.specs.Field.{in_use, field_of}
use Rattle.capsule_protocol.specs.Stages.{stays_at, is_run}
use Rattle.capsule_protocol.specs.declared.stages.Stage.{Stage}

abbrev pub spaces : ℕ → List ℕ
spaces n = replicate n 0x20

-- ---- rules (proofs/Exactly.antt)

-- in the set
abbrev pub In : Rule → List ℕ → Type 0
In x s = x s ≡ true

abbrev pub EmptyExactly : Type 0
EmptyExactly = (s : List ℕ) → In empty s ↔ (s ≡ [])

abbrev pub OneExactly : Type 0
OneExactly = (p : Class) (s : List ℕ) → In (one p) s ↔ ((b : ℕ) × (p b ≡ true) × (s ≡ b ∷ []))

abbrev pub EveryExactly : Type 0
EveryExactly = (p : Class) (s : List ℕ) → In (every p) s ↔ ((i : ℕ) → i < length s → p (get_or s i 0) ≡ true)

abbrev pub UpToExactly : Type 0
UpToExactly = (n : ℕ) (p : Class) (s : List ℕ) → In (up_to n p) s ↔ (In (every p) s × (1 ≤ length s) × (length s ≤ n))

-- a front in x, and the rest in y
abbrev pub ThenExactly : Type 0
ThenExactly = (x y : Rule) (s : List ℕ) → In (x then y) s ↔ ((t : List ℕ) × (u : List ℕ) × (s ≡ t ++ u) × In x t × In y u)

-- some strings of x, joined
abbrev pub joined : List (List ℕ) → List ℕ
joined [] = []
joined (t ∷ l) = t ++ joined l

abbrev pub AllIn : Rule → List (List ℕ) → Type 0
AllIn x [] = Unit {0}
AllIn x (t ∷ l) = In x t × AllIn x l

abbrev pub ManyExactly : Type 0
ManyExactly = (x : Rule) (s : List ℕ) → In (many x) s ↔ ((l : List (List ℕ)) × (s ≡ joined l) × AllIn x l)

-- ---- items, in words (proofs/Items.antt)

-- from one to n digits
abbrev pub Digits : ℕ → List ℕ → Type 0
Digits n d = In (every is_digit) d × (1 ≤ length d) × (length d ≤ n)

-- perhaps a `-`, and then t
abbrev pub Signed : List ℕ → List ℕ → Type 0
Signed s t = (s ≡ t) ⊎ (s ≡ 0x2d ∷ t)

abbrev pub IntegerExactly : Type 0
IntegerExactly = (s : List ℕ) → In sf_integer s ↔ ((d : List ℕ) × Signed s d × Digits 15 d)

abbrev pub DecimalExactly : Type 0
DecimalExactly = (s : List ℕ) → In sf_decimal s ↔ ((d : List ℕ) × (f : List ℕ) × Signed s (d ++ (0x2e ∷ f)) × Digits 12 d × Digits 3 f)

abbrev pub CharacterExactly : Type 0
CharacterExactly = (s : List ℕ) → In chr s ↔ ((b : ℕ) × (((is_unescaped b ≡ true) × (s ≡ b ∷ [])) ⊎ ((is_escapable b ≡ true) × (s ≡ 0x5c ∷ b ∷ []))))

abbrev pub StringExactly : Type 0
StringExactly = (s : List ℕ) → In sf_string s ↔ ((l : List (List ℕ)) × (s ≡ 0x22 ∷ (joined l ++ (0x22 ∷ []))) × AllIn chr l)

-- a first byte, and any number of others
abbrev pub Headed : Class → Class → List ℕ → Type 0
Headed p q s = (b : ℕ) × (t : List ℕ) × (s ≡ b ∷ t) × (p b ≡ true) × In (every q) t

abbrev pub TokenExactly : Type 0
TokenExactly = (s : List ℕ) → In sf_token s ↔ Headed is_token_start is_token_byte s

abbrev pub ByteSequenceExactly : Type 0
ByteSequenceExactly = (s : List ℕ) → In sf_binary s ↔ ((t : List ℕ) × (s ≡ 0x3a ∷ (t ++ (0x3a ∷ []))) × In (every is_base64) t)

abbrev pub BooleanExactly : Type 0
BooleanExactly = (s : List ℕ) → In sf_boolean s ↔ ((s ≡ 0x3f ∷ 0x30 ∷ []) ⊎ (s ≡ 0x3f ∷ 0x31 ∷ []))

abbrev pub BareItemExactly : Type 0
BareItemExactly =
    (s : List ℕ) → In bare_item s ↔ (In sf_integer s ⊎ (In sf_decimal s ⊎ (In sf_string s ⊎ (In sf_token s ⊎ (In sf_binary s ⊎ In sf_boolean s)))))

abbrev pub KeyExactly : Type 0
KeyExactly = (s : List ℕ) → In key s ↔ Headed is_key_start is_key_byte s

abbrev pub ParameterExactly : Type 0
ParameterExactly = (s : List ℕ) → In parameter s ↔ (In key s ⊎ ((k : List ℕ) × (b : List ℕ) × (s ≡ k ++ (0x3d ∷ b)) × In key k × In bare_item b))

-- `;`, spaces and a parameter, any number of times
abbrev pub AllParameters : List (List ℕ) → Type 0
AllParameters [] = Unit {0}
AllParameters (t ∷ l) = ((n : ℕ) × (q : List ℕ) × (t ≡ 0x3b ∷ (spaces n ++ q)) × In parameter q) × AllParameters l

abbrev pub ParametersExactly : Type 0
ParametersExactly = (s : List ℕ) → In parameters s ↔ ((l : List (List ℕ)) × (s ≡ joined l) × AllParameters l)

abbrev pub ItemExactly : Type 0
ItemExactly = (s : List ℕ) → In sf_item s ↔ ((b : List ℕ) × (p : List ℕ) × (s ≡ b ++ p) × In bare_item b × In parameters p)

-- ---- the field's value (proofs/Values.antt)

-- `?1` and well-formed parameters between spaces
abbrev pub InUseExactly : Type 0
InUseExactly = (s : List ℕ) → In in_use s ↔ ((i : ℕ) × (j : ℕ) × (p : List ℕ) × (s ≡ spaces i ++ ((0x3f ∷ 0x31 ∷ p) ++ spaces j)) × In parameters p)

-- what is answered; 19 is longer than 1,024 bytes
abbrev pub FieldExactly : Type 0
FieldExactly =
    (s : List ℕ)
    → ((field_of s ≡ (Ok true)) ↔ ((length s ≤ 1024) × In in_use s))
    × ((field_of s ≡ (Ok false)) ↔ ((length s ≤ 1024) × (in_use s ≡ false)))
    × ((field_of s ≡ Err field_too_long) ↔ (1024 < length s))

-- what document 01 took is in use, up to 1,024 bytes
abbrev pub BareTrueInUse : Type 0
BareTrueInUse = (i j : ℕ) → i + (2 + j) ≤ 1024 → field_of (spaces i ++ (0x3f ∷ 0x31 ∷ spaces j)) ≡ (Ok true)

-- spaces at either end do not matter
abbrev pub SpacesIgnored : Type 0
SpacesIgnored = (i j : ℕ) (s : List ℕ) → in_use (spaces i ++ (s ++ spaces j)) ≡ in_use s

-- a parameter more
abbrev pub ParameterAdded : Type 0
ParameterAdded =
    (i j n : ℕ) (p q : List ℕ) → In parameters p → In parameter q → In in_use (spaces i ++ ((0x3f ∷ 0x31 ∷ (p ++ (0x3b ∷ (spaces n ++ q)))) ++ spaces j))

-- ---- what is absent (proofs/Absent.antt)

-- a bare item other than `?1`, whatever comes after it
abbrev pub OtherItemsAbsent : Type 0
OtherItemsAbsent = (i : ℕ) (b t : List ℕ) → In bare_item b → (b ≡ 0x3f ∷ 0x31 ∷ [] → ⊥) → in_use (spaces i ++ (b ++ t)) ≡ false

-- a space or a tab
abbrev pub is_blank : Class
is_blank b = is 0x20 b || is 0x09 b

-- a list: an item, perhaps spaces and tabs, and `,` (RFC 8941, section 3.1)
abbrev pub ListsAbsent : Type 0
ListsAbsent = (i : ℕ) (a w t : List ℕ) → In sf_item a → In (every is_blank) w → in_use (spaces i ++ (a ++ (w ++ (0x2c ∷ t)))) ≡ false

-- an inner list: `(` first (RFC 8941, section 3.1.1)
abbrev pub InnerListsAbsent : Type 0
InnerListsAbsent = (i : ℕ) (t : List ℕ) → in_use (spaces i ++ (0x28 ∷ t)) ≡ false

-- a syntax error: what is no item between spaces
abbrev pub OnlyItemsInUse : Type 0
OnlyItemsInUse = (s : List ℕ) → In in_use s → (i : ℕ) × (j : ℕ) × (a : List ℕ) × (s ≡ spaces i ++ (a ++ spaces j)) × In sf_item a

-- ---- the code's stages

-- a stage has a run exactly if some byte leaves it as it is: in Steps
abbrev pub RunsExactly : Type 0
RunsExactly = (stage : Stage) → is_run stage ≡ true ↔ ((b : ℕ) × (stays_at stage b ≡ true))
