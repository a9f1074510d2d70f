-- The short ways of a feeding: what they answer, by the feeding itself.
use Rattle.refusals.specs.declared.Refusal.{Refusal}
use Rattle.capsule.specs.declared.reader.Advance.{Advance}
use Rattle.std.specs.Prelude.{ℕ, Bool, true, false, cond, List, Option, Some, None, Result, Ok, Err}
use Rattle.opening.specs.declared.Opening.{Opening}
use Rattle.opening.specs.declared.Report.{Report}
use Rattle.planning.specs.declared.Header.{Header}
use Rattle.planning.specs.declared.Phase.{Phase}
use Rattle.planning.specs.declared.Phase.TheVariants.{InType, InLength, InValue}
use Rattle.capsule.specs.declared.reader.Reader.{Reader}
use Rattle.fast_paths.specs.declared.Whole.{Whole}
use Rattle.fast_paths.specs.declared.Whole.TheVariants as whole_as
use Rattle.fast_paths.specs.declared.Inside.{Inside}
use Rattle.fast_paths.specs.declared.Inside.TheVariants as inside_as
use Rattle.opening.specs.declared.Kind.{Kind}
use Rattle.opening.specs.declared.Kind.TheVariants.{Datagram, Address, Unknown}
use Rattle.opening.specs.Kinds.{kind_of}
use Rattle.capsule.specs.Calls.{Lent}
use Rattle.capsule.specs.Reader.{fresh, Feeding, feed_of}
use Rattle.planning.specs.Headers.{short_header}

-- ---- between two capsules

-- address capsules are left to the general way
unfoldable pub is_plain : Kind → Bool
is_plain Datagram = true
is_plain Address = false
is_plain Unknown = true

unfoldable pub is_short : Opening → Option Header → Bool
is_short op None = false
is_short op (Some short) = is_plain (kind_of op short.ctype)

pub record WholeFed : Type 0 where
  pub answer : Option Whole
  pub buffers : Lent

abbrev pub whole_fed : Option Whole → Lent → WholeFed
whole_fed a b = record { answer = a; buffers = b }

-- a capsule ended, or the piece ended in its value; wherever the answer is None, the buffers are those lent
abbrev pub whole_after : Lent → ℕ → ℕ → Option Report → Phase → Lent → WholeFed
whole_after b consumed written (Some r) phase after = whole_fed (Some (whole_as.Took consumed written r)) after
whole_after b consumed written None (InType part) after = whole_fed None b
whole_after b consumed written None (InLength t part) after = whole_fed None b
whole_after b consumed written None (InValue t n left) after = whole_fed (Some (whole_as.Cut written t n left)) after

unfoldable pub whole_in : Lent → Result Advance Refusal → Phase → Lent → WholeFed
whole_in b (Err r) phase after = whole_fed None b
whole_in b (Ok a) phase after = whole_after b a.consumed a.written a.ended phase after

abbrev pub whole_by : Lent → Feeding → WholeFed
whole_by b f = whole_in b f.answer f.reader.phase f.buffers

-- the feeding of a reader between two capsules, where a short header stands at the front of the piece
unfoldable pub whole_of : Opening → List ℕ → Lent → WholeFed
whole_of op p b = cond (is_short op (short_header p)) (whole_by b (feed_of (fresh op) p b)) (whole_fed None b)

-- ---- a piece within a value

abbrev pub in_value : Opening → ℕ → ℕ → ℕ → Reader
in_value op t n left = record { opening = op; phase = InValue t n left; finished = false }

pub record InsideFed : Type 0 where
  pub answer : Option Inside
  pub buffers : Lent

abbrev pub inside_fed : Option Inside → Lent → InsideFed
inside_fed a b = record { answer = a; buffers = b }

abbrev pub inside_after : ℕ → ℕ → Option Report → Lent → InsideFed
inside_after consumed written None after = inside_fed (Some (inside_as.Took written)) after
inside_after consumed written (Some r) after = inside_fed (Some (inside_as.Ended consumed written r)) after

unfoldable pub inside_in : Lent → Result Advance Refusal → Lent → InsideFed
inside_in b (Err r) after = inside_fed None b
inside_in b (Ok a) after = inside_after a.consumed a.written a.ended after

abbrev pub inside_by : Lent → Feeding → InsideFed
inside_by b f = inside_in b f.answer f.buffers

-- the feeding of a reader in a value
unfoldable pub inside_of : Opening → ℕ → ℕ → ℕ → List ℕ → Lent → InsideFed
inside_of op t n left p b = cond (is_plain (kind_of op t)) (inside_by b (feed_of (in_value op t n left) p b)) (inside_fed None b)
