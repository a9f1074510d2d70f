-- A feeding's bytes, moved as its plan says. Assumes nothing.
use Rattle.std.specs.Prelude.{Option, Ok}
use Rattle.opening.specs.declared.Report.{Report}
use Rattle.capsule.specs.Reader.{taking}
use Rattle.walks.proofs.Words.{◌≡◌, refl, sym, ap, ◌∙◌, ℕ, zero, suc, ◌+◌, ◌-◌, ◌/◌, ◌%◌, ◌^◌, ◌≤◌, arith, Bool, true, false, List, [], ◌∷◌, ◌++◌, length, take, drop, length-append, sets, length-sets, length-take-le, sets-eq}
use Rattle.std.specs.Int.{bytes_high_first, to_be_bytes, w64}
use Rattle.std.specs.List.{between}
use Rattle.std.proofs.lemmas.Slice.{between_to_end}
use Rattle.capsule.proofs.Terms.{Partial, bytes_of, held_bytes, length-bytes_of, sets-append, only_if, Plan, Reader, Lent, lent, finishes_in, plan_of, held_of, wrote, stored, judged_in, feeding, fed_by, take_of, Wrote, copying, copy, copied}

-- ---- a number's bytes

high_first : (k n : ℕ) → bytes_high_first k n ≡ bytes_of k n
unfolding bytes_of
high_first zero n = refl
high_first (suc zero) n = let e : n / 256 ^ 0 % 256 ≡ n % 256 = omega arith in sym (ap (λ (b : ℕ). b ∷ []) e)
high_first (suc (suc k)) n = ap (λ (s : List ℕ). n / 256 ^ suc k % 256 ∷ s) (high_first (suc k) n)

last_of : (k d m n : ℕ) → m ≡ k + d → drop d (bytes_of m n) ≡ bytes_of k n
unfolding bytes_of
last_of k zero m n e = let same : m ≡ k = omega arith in ap (λ (i : ℕ). bytes_of i n) same
last_of k (suc d) m n e = let same : m ≡ suc (k + d) = omega arith in ap (λ (i : ℕ). drop (suc d) (bytes_of i n)) same ∙ last_of k d (k + d) n refl

-- the last k of the eight bytes, at the front of the output
pub put_last : (k n : ℕ) (o bytes run : List ℕ) → k ≤ 8 → k ≤ length o → bytes ≡ to_be_bytes w64 n → run ≡ between (8 - k) 8 bytes
    → run ++ drop k o ≡ sets o 0 (bytes_of k n)
put_last k n o bytes run h l b r =
    let w : List ℕ = bytes_of k n in
    let len : 0 + length w ≡ k = omega (arith, length-bytes_of k n) in
    let is_w : run ≡ w = r ∙ between_to_end bytes (8 - k) 8 (omega (arith, ap length b)) ∙ rw (b, high_first 8 n) (last_of k (8 - k) 8 n (omega arith)) in
    rw is_w (sym (sets-eq w o 0 (omega arith) ∙ ap (λ (i : ℕ). w ++ drop i o) len))

-- ---- a run of bytes

module _ (p g : List ℕ) (store : Bool) (at consumed place : ℕ) where
  pub stored_some : store ≡ true → at ≤ consumed → consumed ≤ length p → place + (consumed - at) ≤ length g → (done : Bool) (after : List ℕ)
      → copying done after ≡ copy p at g place (consumed - at) → after ≡ stored store at consumed place p g
  unfolding stored
  stored_some e h l k done after c = rw e (copied p at g place (consumed - at) done after c (omega arith) k)

  pub stored_none : store ≡ false → g ≡ stored store at consumed place p g
  unfolding stored
  stored_none e = rw e

-- the held bytes, and after them a run of the piece
module _ (p o : List ℕ) (forward : Bool) (held : Partial) (consumed : ℕ) where
  pub wrote_some : forward ≡ true → consumed ≤ length p → held.have + consumed ≤ length o → (put : List ℕ) → put ≡ sets o 0 (bytes_of held.have held.raw)
      → (done : Bool) (after : List ℕ) → copying done after ≡ copy p 0 put held.have consumed
      → Wrote (wrote forward held consumed p) o (held.have + consumed) after
  unfolding wrote only_if held_bytes
  wrote_some e l h put is_put done after c =
      let w : List ℕ = bytes_of held.have held.raw in
      let len : length w ≡ held.have = length-bytes_of held.have held.raw in
      let size : length put ≡ length o = ap length is_put ∙ length-sets o 0 w in
      let z : 0 + length w ≡ held.have = omega arith in
      rw e (record {
        counted = omega (arith, length-append w (take consumed p), length-take-le consumed p l);
        placed = copied p 0 put held.have consumed done after c (omega arith) (omega arith)
            ∙ ap (λ (x : List ℕ). sets x held.have (take consumed p)) is_put
            ∙ ap (λ (x : ℕ). sets (sets o 0 w) x (take consumed p)) (sym z)
            ∙ sets-append o 0 w (take consumed p);
      })

  -- the same, where the run's place is a number of its own
  pub wrote_first : (first : ℕ) → first ≡ held.have → forward ≡ true → consumed ≤ length p → held.have + consumed ≤ length o → (put : List ℕ)
      → put ≡ sets o 0 (bytes_of held.have held.raw) → (done : Bool) (after : List ℕ) → copying done after ≡ copy p 0 put first consumed
      → Wrote (wrote forward held consumed p) o (first + consumed) after
  wrote_first first f e l h put is_put done after c = rw f (wrote_some e l h put is_put done after (rw f at c))

  pub wrote_none : forward ≡ false → Wrote (wrote forward held consumed p) o 0 o
  unfolding wrote only_if
  wrote_none e = rw e (record { counted = refl; placed = refl })

-- ---- a feeding without its refusals

-- planned and moved as said, and judged by what then stands in the second buffer, it is the whole of it
pub takes : (r : Reader) (p : List ℕ) (b : Lent) (held : Partial) (plan : Plan) (written : ℕ) (g a o : List ℕ) (ended : Option Report) (last : Bool)
    → held ≡ held_of r.phase → plan ≡ plan_of r.opening p r.phase
    → g ≡ stored plan.store plan.at plan.consumed plan.place p b.gathering
    → a ≡ stored plan.keep plan.at plan.consumed plan.place p b.addresses
    → Wrote (wrote plan.forward held plan.consumed p) b.output written o
    → ended ≡ judged_in plan.ended a → last ≡ finishes_in ended
    → feeding (record { opening = r.opening; phase = plan.next; finished = last }) (Ok (taking plan.consumed written ended)) (lent g a o) ≡ take_of r p b
unfolding take_of fed_by
takes r p b held plan written g a o ended last is_held is_plan s k w e f = rw (← is_held, ← is_plan, f, e, s, k, w.counted, w.placed)
