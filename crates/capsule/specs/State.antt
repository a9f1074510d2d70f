-- The reader's state, made from the opening, the stream and the finished mark.
use Rattle.std.specs.Prelude.{ℕ, ◌+◌, ◌-◌, Bool, List, length, drop}
use Rattle.wire.specs.Partial.{partial_of}
use Rattle.opening.specs.declared.Opening.{Opening}
use Rattle.planning.specs.declared.Phase.{Phase}
use Rattle.planning.specs.declared.Phase.TheVariants.{InType, InLength, InValue}
use Rattle.capsule.specs.declared.reader.Reader.{Reader}
use Rattle.capsule.specs.Grammar.{Stage, in_type, in_length, in_value, Parts}
use Rattle.opening.specs.Kinds.{extent_of}
use Rattle.capsule.specs.Book.{parts_for, Book}

-- of the tail r: the bytes of the field that it stands in; in a value, how many are to come
unfoldable pub phase_at : Opening → List ℕ → Stage → Phase
phase_at op r in_type = InType (partial_of r)
phase_at op r (in_length t head) = InLength t (partial_of (drop head r))
phase_at op r (in_value t n head) = InValue t n (head + extent_of op t n - length r)

unfoldable pub phase_of : Opening → Parts → Phase
phase_of op p = phase_at op p.tail p.stage

unfoldable pub reader_of : Opening → List ℕ → Bool → Reader
reader_of op s mark = record { opening = op; phase = phase_of op (parts_for op s); finished = mark }

unfoldable pub of_book : Book → Reader
of_book k = reader_of k.opening k.stream k.mark
