-- The capsule grammar (RFC 9297, section 3.2): a byte list, split from its front.
use Rattle.std.specs.Prelude.{ℕ, zero, suc, ◌+◌, cond, List, [], ◌∷◌, ◌++◌, length, take, drop, leb, Some, None}
use Rattle.wire.specs.Varint.{read_varint}

-- How many value bytes complete a capsule, by its type and its length. The grammar's is the length itself; the book's asks the opening
-- (`extent_of` of the crate `opening`).
abbrev pub Extent : Type 0
Extent = ℕ → ℕ → ℕ

abbrev pub plain : Extent
plain t n = n

-- How far an unfinished capsule has come: in its type; in its length, behind a type of `head` bytes; in its value, behind a type and a length
-- of `head` bytes together
pub data Stage : Type 0 where
  in_type : Stage
  in_length : (ctype head : ℕ) → Stage
  in_value : (ctype length head : ℕ) → Stage

-- what stands at the front of a list: a part of a capsule, or a complete one
pub data Front : Type 0 where
  part : Stage → Front
  whole : (ctype length head : ℕ) → Front

unfoldable pub front_by : Extent → List ℕ → Front
front_by ext s = elim (read_varint s) [
  | None ↦ part in_type
  | Some t ↦ elim (read_varint (drop t.size s)) [
    | None ↦ part (in_length t.value t.size)
    | Some n ↦ cond (leb (t.size + n.size + ext t.value n.value) (length s)) (whole t.value n.value (t.size + n.size)) (part (in_value t.value n.value (t.size + n.size)))
  ]
]

-- a complete capsule: its type, its length, its value, and all its bytes as they stand
pub record Capsule : Type 0 where
  pub ctype : ℕ
  pub size : ℕ
  pub value : List ℕ
  pub bytes : List ℕ

unfoldable pub capsule_at : Extent → List ℕ → ℕ → ℕ → ℕ → Capsule
capsule_at ext s t n head = record { ctype = t; size = n; value = take (ext t n) (drop head s); bytes = take (head + ext t n) s }

-- complete capsules, then the unfinished tail and how far it has come
pub record Parts : Type 0 where
  pub capsules : List Capsule
  pub tail : List ℕ
  pub stage : Stage

abbrev pub ahead : List Capsule → Parts → Parts
ahead cs p = record { capsules = cs ++ p.capsules; tail = p.tail; stage = p.stage }

-- each complete capsule takes one off the fuel
unfoldable pub cut_by : Extent → ℕ → List ℕ → Parts
cut_by ext zero s = record { capsules = []; tail = s; stage = in_type }
cut_by ext (suc fuel) s = elim (front_by ext s) [
  | part x ↦ record { capsules = []; tail = s; stage = x }
  | whole t n head ↦ ahead (capsule_at ext s t n head ∷ []) (cut_by ext fuel (drop (head + ext t n) s))
]

-- a capsule has at least two bytes, so that this fuel never runs out
unfoldable pub parts_by : Extent → List ℕ → Parts
parts_by ext s = cut_by ext (suc (length s)) s

-- document 01's grammar
abbrev pub parts : List ℕ → Parts
parts s = parts_by plain s
