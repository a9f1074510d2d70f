-- Refusals, in the order in which they stand. Assumes nothing.
use Rattle.std.specs.Prelude.{Result, Ok, Err}
use Rattle.walks.proofs.Words.{◌≡◌, refl, ℕ, ◌+◌, ◌≤◌, Bool, true, false, List, length}
use Rattle.capsule.proofs.Terms.{Refusal, unmakeable_state, finished, split, parted, Intermediary, Reader, longest_address_value, opted, Lent, lent_verdict, is_opening, is_makeable, verdict_of, feeding, take_of, feed_by, feed_of, is_makeable_phase, zero_one, gathering-short, addresses-short, output-short}

-- ---- of a state

module _ (r : Reader) (piece gathering addresses output : ℕ) where
  pub unmakeable : is_makeable r ≡ false → Err unmakeable_state ≡ verdict_of r piece gathering addresses output
  unfolding verdict_of
  unmakeable m = rw m

  module _ (m : is_makeable r ≡ true) where
    pub after-close : r.finished ≡ true → Err finished ≡ verdict_of r piece gathering addresses output
    unfolding verdict_of
    after-close f = rw (m, f)

    -- no refusal stands before those by the lengths
    pub by_lengths : r.finished ≡ false → (v : (Result (Unit {0}) Refusal)) → v ≡ lent_verdict r.opening piece gathering addresses output → v ≡ verdict_of r piece gathering addresses output
    unfolding verdict_of
    by_lengths f v e = rw (m, f) e

-- ---- what an accepted feeding knows

pub record Accepts (r : Reader) (piece gathering addresses output : ℕ) : Type 0 where
  pub phase : is_makeable_phase r.opening r.phase ≡ true
  pub gathers : r.opening.limit ≤ gathering
  pub keeps : opted r.opening ≡ true → longest_address_value ≤ addresses
  pub forwards : r.opening.role ≡ Intermediary → piece + 8 ≤ output

not_refused {ℓ} : {X : Type ℓ} {v : (Result (Unit {0}) Refusal)} {why : Refusal} → v ≡ (Ok tt) → Err why ≡ v → X
not_refused p q = zero_one (cc)

makeable_phase : (r : Reader) → is_makeable r ≡ true → is_makeable_phase r.opening r.phase ≡ true
unfolding is_makeable
makeable_phase r m = (parted (is_opening r.opening) (is_makeable_phase r.opening r.phase) m).1

pub accepts : (r : Reader) (piece gathering addresses output : ℕ) → verdict_of r piece gathering addresses output ≡ (Ok tt) → Accepts r piece gathering addresses output
accepts r piece gathering addresses output e = go (is_makeable r) refl r.finished refl
  where
    go : (m : Bool) → is_makeable r ≡ m → (f : Bool) → r.finished ≡ f → Accepts r piece gathering addresses output
    go false m f g = not_refused e (unmakeable r piece gathering addresses output m)
    go true m true f = not_refused e (after-close r piece gathering addresses output m f)
    go true m false f =
        let lengths = by_lengths r piece gathering addresses output m f in
        let enough : r.opening.limit ≤ gathering = split r.opening.limit gathering (λ h. h) (λ h. not_refused e (lengths _ (gathering-short r.opening piece gathering addresses output h))) in
        record {
          phase = makeable_phase r m;
          gathers = enough;
          keeps = λ o. split longest_address_value addresses (λ h. h) (λ h. not_refused e (lengths _ (addresses-short r.opening piece gathering addresses output enough o h)));
          forwards = λ i. split (piece + 8) output (λ h. h) (λ h. not_refused e (lengths _ (output-short r.opening piece gathering addresses output enough i h)));
        }

pub accepted_makeable : (r : Reader) (piece gathering addresses output : ℕ) → verdict_of r piece gathering addresses output ≡ (Ok tt) → is_makeable r ≡ true
accepted_makeable r piece gathering addresses output e = go (is_makeable r) refl
  where
    go : (m : Bool) → is_makeable r ≡ m → is_makeable r ≡ true
    go true m = m
    go false m = not_refused e (unmakeable r piece gathering addresses output m)

-- ---- feeding, by its verdict

module _ (r : Reader) (p : List ℕ) (b : Lent) where
  pub feed_refused : (why : Refusal) → verdict_of r (length p) (length b.gathering) (length b.addresses) (length b.output) ≡ Err why → feeding r (Err why) b ≡ feed_of r p b
  unfolding feed_of feed_by
  feed_refused why e = rw e

  pub feed_taken : verdict_of r (length p) (length b.gathering) (length b.addresses) (length b.output) ≡ (Ok tt) → take_of r p b ≡ feed_of r p b
  unfolding feed_of feed_by
  feed_taken e = rw e
