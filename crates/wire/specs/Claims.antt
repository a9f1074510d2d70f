-- What holds of the definitions: each claim is a type here, and is proved in proofs/ under the name given.
use Rattle.short_forms.specs.Short.{varint_of}
use Rattle.std.specs.Prelude.{◌≡◌, ◌↔◌, true, false, ℕ, ◌-◌, ◌*◌, ◌^◌, ◌≤◌, ◌<◌, List, [], ◌∷◌, ◌++◌, length, take, Some, None, Ok, Err}
use Rattle.std.proofs.lemmas.List.Edits.{sets}
use Rattle.refusals.specs.declared.Refusal.{Refusal}
use Rattle.short_forms.specs.Short.{read_short}
use Rattle.wire.specs.declared.partial.Partial.{Partial}
use Rattle.wire.specs.declared.partial.VarintTaken.TheVariants.{Impossible}
use Rattle.wire.specs.declared.units.StreamId.{StreamId}
use Rattle.wire.specs.declared.units.Quarter.{Quarter}
use Rattle.wire.specs.Bytes.{Bytes}
use Rattle.wire.specs.Varint.{largest, size_of, read_varint, encode_as, least_size, encode}
use Rattle.wire.specs.Long.{read_long}
use Rattle.wire.specs.Writing.{Writing, write_varint}
use Rattle.wire.specs.Partial.{partial_of, is_partial, taken_of, take_varint}
use Rattle.wire.specs.Units.{IsRequestStream, largest_quarter, quarter_of, stream_of}

-- ---- reading (proofs/Reading.antt)

-- incomplete exactly if there is no byte, or fewer than the first one says
abbrev pub IncompleteExactly : Type 0
IncompleteExactly =
    (read_varint [] ≡ None) × ((b : ℕ) (s : List ℕ) → (read_varint (b ∷ s) ≡ None) ↔ (length (b ∷ s) < size_of b))

-- what is read depends on the first `size` bytes alone
abbrev pub FirstBytesOnly : Type 0
FirstBytesOnly = (s rest : List ℕ) (value size : ℕ) → read_varint s ≡ Some (varint_of value size) → read_varint (take size s ++ rest) ≡ Some (varint_of value size)

abbrev pub NeverAboveLargest : Type 0
NeverAboveLargest = (s : List ℕ) (value size : ℕ) → Bytes s → read_varint s ≡ Some (varint_of value size) → (value ≤ largest) × (size ≤ 8) × (size ≤ length s)

-- ---- short and long forms (proofs/Forms.antt)

-- a short form is found exactly where reading answers a size of 1 or 2, with the same value and size
abbrev pub ShortExactly : Type 0
ShortExactly = (s : List ℕ) (value size : ℕ) → (read_short s ≡ Some (varint_of value size)) ↔ ((read_varint s ≡ Some (varint_of value size)) × (size ≤ 2))

-- and a long one exactly where it answers a size of 4 or more
abbrev pub LongExactly : Type 0
LongExactly = (s : List ℕ) (value size : ℕ) → (read_long s ≡ Some (varint_of value size)) ↔ ((read_varint s ≡ Some (varint_of value size)) × (4 ≤ size))

-- ---- writing (proofs/Encoding.antt)

-- every legal size of a number is read as that number, whatever follows
abbrev pub EveryFormRead : Type 0
EveryFormRead = (w n : ℕ) → w ≤ 3 → n < 2 ^ (8 * 2 ^ w - 2) → (rest : List ℕ) → read_varint (encode_as w n ++ rest) ≡ Some (varint_of n (2 ^ w))

-- what the writer writes is read back with the writer's size, whatever follows
abbrev pub ReadBack : Type 0
ReadBack = (n : ℕ) → n ≤ largest → (rest : List ℕ) → (read_varint (encode n ++ rest) ≡ Some (varint_of n (least_size n))) × (length (encode n) ≡ least_size n)

-- no byte list that reads as a number does so with fewer bytes than the writer uses
abbrev pub Shortest : Type 0
Shortest = (s : List ℕ) (n size : ℕ) → read_varint s ≡ Some (varint_of n size) → least_size n ≤ size

-- ---- writing at a place (proofs/Leaving.antt)

-- a writer of these bytes: where it refuses, the output is as lent; where not, they stand from the place on, no other byte changed, and their
-- number is answered
pub record Leaves (bytes out : List ℕ) (place : ℕ) (w : Writing) : Type 0 where
  pub refused : (why : Refusal) → w.answer ≡ Err why → w.output ≡ out
  pub wrote : (k : ℕ) → w.answer ≡ Ok k → (k ≡ length bytes) × (w.output ≡ sets out place bytes)

abbrev pub VarintLeaves : Type 0
VarintLeaves = (n : ℕ) (out : List ℕ) (place : ℕ) → Leaves (encode n) out place (write_varint n out place)

-- ---- a varint of which a part has come (proofs/Parts.antt)

-- a part that goes on by more bytes comes to what is read at all of them
abbrev pub GoesOn : Type 0
GoesOn = (s t : List ℕ) → Bytes s → read_varint s ≡ None → take_varint (partial_of s) t ≡ taken_of (length s) (s ++ t) (read_varint (s ++ t))

-- the parts that occur are those that some bytes make which are no whole varint
abbrev pub OccursExactly : Type 0
OccursExactly = (p : Partial) → (is_partial p ≡ true) ↔ ((s : List ℕ) × Bytes s × (read_varint s ≡ None) × (partial_of s ≡ p))

-- any other pair cannot be a part, and only such a one is answered so
abbrev pub ImpossibleExactly : Type 0
ImpossibleExactly = (p : Partial) (s : List ℕ) → (take_varint p s ≡ Impossible) ↔ (is_partial p ≡ false)

-- ---- stream IDs (proofs/Identifiers.antt)

abbrev pub RequestExactly : Type 0
RequestExactly = (id : StreamId) → ((q : ℕ) → (quarter_of id ≡ Some (record { 0 = q })) ↔ IsRequestStream id.0 × (q * 4 ≡ id.0)) × ((quarter_of id ≡ None) ↔ (IsRequestStream id.0 → ⊥))

-- each request stream has one quarter, and each quarter is one request stream's
abbrev pub QuarterExactly : Type 0
QuarterExactly = (id : StreamId) (q : Quarter) → (quarter_of id ≡ Some q) ↔ (stream_of q ≡ Some id)

abbrev pub QuarterBounded : Type 0
QuarterBounded = (id : StreamId) (q : Quarter) → quarter_of id ≡ Some q → q.0 ≤ largest_quarter
