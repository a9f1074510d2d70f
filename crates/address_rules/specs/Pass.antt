-- For the proofs alone: the rule of ranges as one pass checks it, each range against the one before it and against those before it of its own version.
use Rattle.std.specs.Prelude.{Bool, true, cond, ◌&&◌, ◌||◌, List, [], ◌∷◌, ◌++◌, ltb, eqb}
use Rattle.std.specs.Prelude.{Option, None, Some}
use Rattle.addresses.specs.Addresses.{Range, good_range, before, disjoint, all_of}

-- the range before, and the ranges before of its version
pub record Seen : Type 0 where
  pub previous : Option Range
  pub same : List Range

abbrev pub nothing : Seen
nothing = record { previous = None; same = [] }

unfoldable pub follows : Option Range → Range → Bool
follows None r = true
follows (Some p) r = before p r

-- the ranges before r of r's version
unfoldable pub same_of : Option Range → List Range → Range → List Range
same_of None rs r = []
same_of (Some p) rs r = cond (eqb p.version r.version) rs []

-- r does not overlap a range for all protocols
unfoldable pub clear_from : Range → Range → Bool
clear_from r s = ltb 0 s.protocol || disjoint s r

unfoldable pub fits : Seen → Range → Bool
fits st r = good_range r && (follows st.previous r && (eqb r.protocol 0 || all_of (clear_from r) (same_of st.previous st.same r)))

unfoldable pub after : Seen → Range → Seen
after st r = record { previous = Some r; same = same_of st.previous st.same r ++ (r ∷ []) }

unfoldable pub pass : Seen → List Range → Bool
pass st [] = true
pass st (r ∷ rs) = fits st r && pass (after st r) rs
