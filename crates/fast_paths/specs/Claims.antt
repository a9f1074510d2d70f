-- What holds of the fast paths. Each claim is a type here, and is proved in proofs/Claims.antt under the name given.
use Rattle.capsule.specs.Reader.{taking}
use Rattle.std.specs.Prelude.{◌≡◌, ℕ, ◌-◌, List, length, Some, None, Ok}
use Rattle.wire.specs.Bytes.{Bytes}
use Rattle.opening.specs.declared.Opening.{Opening}
use Rattle.opening.specs.declared.Report.{Report}
use Rattle.fast_paths.specs.declared.Whole.TheVariants as whole_as
use Rattle.fast_paths.specs.declared.Inside.TheVariants as inside_as
use Rattle.capsule.specs.Calls.{Lent}
use Rattle.capsule.specs.Reader.{fresh, feeding, feed_of}
use Rattle.fast_paths.specs.FastPaths.{in_value, whole_of, inside_of}

-- where the fast paths answer None, whatever the opening, the piece and the buffers, nothing was changed

abbrev pub NotUnchanged : Type 0
NotUnchanged =
    (op : Opening) (p : List ℕ) (b : Lent)
    → ((whole_of op p b).answer ≡ None → (whole_of op p b).buffers ≡ b)
    × ((t n left : ℕ) → (inside_of op t n left p b).answer ≡ None → (inside_of op t n left p b).buffers ≡ b)

-- whatever else they answer is the feeding, its buffers too: after a short header the capsule ended and the reader is as opened, or the piece ended in the
-- value
abbrev pub WholeFeeds : Type 0
WholeFeeds =
    (op : Opening) (p : List ℕ) (b : Lent)
    → Bytes p
    → ((consumed written : ℕ) (r : Report) → (whole_of op p b).answer ≡ (Some (whole_as.Took consumed written r))
    → feed_of (fresh op) p b ≡ feeding (fresh op) (Ok (taking consumed written (Some r))) (whole_of op p b).buffers)
    × ((written t n left : ℕ) → (whole_of op p b).answer ≡ (Some (whole_as.Cut written t n left))
    → feed_of (fresh op) p b ≡ feeding (in_value op t n left) (Ok (taking (length p) written None)) (whole_of op p b).buffers)

-- within a value, of any state and any piece: the piece ended, or the capsule
abbrev pub InsideFeeds : Type 0
InsideFeeds =
    (op : Opening) (t n left : ℕ) (p : List ℕ) (b : Lent)
    → ((written : ℕ) → (inside_of op t n left p b).answer ≡ (Some (inside_as.Took written))
    → feed_of (in_value op t n left) p b ≡ feeding (in_value op t n (left - length p)) (Ok (taking (length p) written None)) (inside_of op t n left p b).buffers)
    × ((consumed written : ℕ) (r : Report) → (inside_of op t n left p b).answer ≡ (Some (inside_as.Ended consumed written r))
    → feed_of (in_value op t n left) p b ≡ feeding (fresh op) (Ok (taking consumed written (Some r))) (inside_of op t n left p b).buffers)
