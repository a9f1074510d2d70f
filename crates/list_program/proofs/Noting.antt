-- A line behind those that wait. Assumes nothing.
use Rattle.std.specs.Prelude.{Option, Some}
use Rattle.std.specs.Option.{unwrap_or}
use Rattle.walks.proofs.Words.{◌≡◌, ap, ◌∙◌, ℕ, ◌+◌, ◌≤◌, arith, List, length, sets, le-leb}
use Rattle.list_program.proofs.Terms.{longest, Writing, writing, write_at, Noted}

-- where the longest line has room, the line is written
pub noted : (line out : List ℕ) (place : ℕ) (r : Option ℕ) (after : List ℕ) → writing r after ≡ write_at line out place → length line ≤ longest → place + longest ≤ length out
    → (size : ℕ) → size ≡ unwrap_or r 0 → Noted line out place (place + size) after
unfolding write_at
noted line out place r after e short room size s =
    let placed : writing r after ≡ writing (Some (length line)) (sets out place line) = rw (le-leb (place + length line) (length out) (omega arith)) at e in
    let written : size ≡ length line = s ∙ ap (λ (w : Writing). unwrap_or w.answer 0) placed in
    record {
      placed = ap (λ (w : Writing). w.output) placed;
      counted = omega (arith, written);
      within = omega (arith, written);
    }
