-- Entries handed out (specs/Claims.antt). Assumes nothing.
use Rattle.walks.proofs.Words.{ℕ, ◌<◌, ◌≡◌, refl, List, arith, length, drop, length-drop}
use Rattle.capi.proofs.Terms.{Step, done, malformed, entry_at, range_at, answer_for, answer_at, address_of, next_address, range_of, next_range, entry_shrinks, range_shrinks, found_number, next_place, cursor, address_found, route_found, GoesOn, EntriesGoOn}
use Rattle.addresses.specs.Addresses.{next}

module _ {A B : Type 0} (read : List ℕ → Step A) (shrinks : (v rest : List ℕ) (e : A) → read v ≡ next e rest → length rest < length v) (form : A → B) (v : List ℕ) (at : ℕ) where
  steps : (x : Step A) → read (drop at v) ≡ x → let a = answer_for form v x in GoesOn v at (found_number a) (next_place (cursor at) a)
  unfolding answer_for found_number next_place
  steps done e = (λ f. absurd (let z : ⊥ = omega (arith, f) in z), λ n. refl)
  steps malformed e = (λ f. absurd (let z : ⊥ = omega (arith, f) in z), λ n. refl)
  steps (next a rest) e = let h = shrinks (drop at v) rest a e in (λ f. (omega (arith, h, length-drop at v), omega arith), λ n. absurd (n refl))

pub entries_go_on : EntriesGoOn
unfolding address_found next_address route_found next_range answer_at
entries_go_on v at = (
  steps entry_at entry_shrinks address_of v at (entry_at (drop at v)) refl,
  steps range_at range_shrinks range_of v at (range_at (drop at v)) refl,
)
