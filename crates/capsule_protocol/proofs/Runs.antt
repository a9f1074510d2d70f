-- The stage after a whole string. Assumes nothing.
use Rattle.walks.proofs.Words.{◌≡◌, refl, sym, ◌∙◌, Bool, true, false, cond, ℕ, zero, suc, List, [], ◌∷◌, ◌++◌}
use Rattle.capsule_protocol.proofs.Terms.{Rule, every, is_space, is_lower, is_alpha, is_digit, is_key_start, is_key_byte, is_unescaped, is_escapable, is_token_start, is_token_byte, is_base64, is_bit, Stage, Reading, Front, Question, Item, Trailing, Semicolon, Key, Equals, Number, Fraction, Text, Escape, Token, Binary, Boolean, Wrong, at, at_if, within, after_item, after_digits, first_of_bare_item, next_at, next_of, rest_of, may_end, may_end_at, in_use, spaces}
use Rattle.capsule_protocol.proofs.Steps.{Spaces, next-rest, spaces-end, space_run, from_front}

unfoldable pub run : Reading → List ℕ → Reading
run r [] = r
run r (b ∷ s) = run (next_of r b) s

pub run-append : (r : Reading) (s t : List ℕ) → run r (s ++ t) ≡ run (run r s) t
unfolding run
run-append r [] t = refl
run-append r (b ∷ s) t = run-append (next_of r b) s t

pub run-rest : (x : Rule) → Spaces x → (r : Reading) (s t : List ℕ) → rest_of x r (s ++ t) ≡ rest_of x (run r s) t
unfolding run
run-rest x h r [] t = refl
run-rest x h r (b ∷ s) t = next-rest x h r b (s ++ t) ∙ run-rest x h (next_of r b) s t

run_ends : (r : Reading) (s : List ℕ) → rest_of (every is_space) r s ≡ may_end (run r s)
unfolding run
run_ends r [] = spaces-end r
run_ends r (b ∷ s) = next-rest (every is_space) space_run r b s ∙ run_ends (next_of r b) s

pub in_use_run : (s : List ℕ) → in_use s ≡ may_end (run (at Front) s)
in_use_run s = from_front s ∙ run_ends (at Front) s

-- nothing makes a wrong value right
pub stays_wrong : (s : List ℕ) → may_end (run (at Wrong) s) ≡ false
unfolding run next_at may_end_at
stays_wrong [] = refl
stays_wrong (b ∷ s) = stays_wrong s

-- ---- spaces at the ends

-- a space more at the end changes nothing
space_ends : (r : Reading) → may_end (next_of r 0x20) ≡ may_end r
unfolding next_at may_end_at at_if after_item after_digits first_of_bare_item is_key_byte is_key_start is_lower is_alpha is_digit is_unescaped is_escapable is_token_byte is_token_start is_base64 is_bit
space_ends r = go r.stage r.digits
  where
    counted : (t : Bool) → may_end (cond t (at Trailing) (at Wrong)) ≡ t
    counted true = refl
    counted false = refl

    go : (stage : Stage) (n : ℕ) → may_end (next_at stage n 0x20) ≡ may_end_at stage n
    go Front n = refl
    go Question n = refl
    go Item n = refl
    go Trailing n = refl
    go Semicolon n = refl
    go Key n = refl
    go Equals n = refl
    go Number n = counted (within n 15)
    go Fraction n = counted (within n 3)
    go Text n = refl
    go Escape n = refl
    go Token n = refl
    go Binary n = refl
    go Boolean n = refl
    go Wrong n = refl

pub spaces-end-run : (j : ℕ) (r : Reading) → may_end (run r (spaces j)) ≡ may_end r
unfolding run
spaces-end-run zero r = refl
spaces-end-run (suc j) r = spaces-end-run j (next_of r 0x20) ∙ space_ends r

pub spaces_in_front : (i : ℕ) (s : List ℕ) → in_use (spaces i ++ s) ≡ in_use s
unfolding run next_at
spaces_in_front zero s = refl
spaces_in_front (suc i) s = in_use_run (0x20 ∷ spaces i ++ s) ∙ sym (in_use_run (spaces i ++ s)) ∙ spaces_in_front i s
