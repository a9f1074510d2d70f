-- The output of an accepted feeding: what is not written stays. Assumes nothing.
use Rattle.std.specs.Prelude.{Option, Result, Ok, Err}
use Rattle.opening.specs.declared.Report.{Report}
use Rattle.refusals.specs.declared.Refusal.{Refusal}
use Rattle.capsule.specs.declared.reader.Advance.{Advance}
use Rattle.capsule.specs.Reader.{taking}
use Rattle.walks.proofs.Words.{◌≡◌, refl, sym, ap, ◌∙◌, subst, ℕ, ◌+◌, ◌≤◌, arith, Bool, true, false, List, [], length, drop, drop-append_seam, sets, sets-eq, length-sets}
use Rattle.capsule_laws.proofs.Terms.{ok_same, Endpoint, Plan, Reader, Lent, only_if, verdict_of, wrote, Feeding, fed_by, take_of, feed_of, plan_of, held_of, zero_one, plan-fits, held_few, Accepts, accepts, feed_refused, feed_taken, OutputKept, OutputExactly}
use Rattle.capsule_laws.proofs.Lists.{wrote-fits}

drop-sets : (o w : List ℕ) → length w ≤ length o → drop (length w) (sets o 0 w) ≡ drop (length w) o
drop-sets o w h =
    let z : 0 + length w ≡ length w = omega arith in
    ap (drop (length w)) (sets-eq w o 0 (omega arith)) ∙ drop-append_seam w (drop (0 + length w) o) ∙ ap (λ (n : ℕ). drop n o) z

module _ (r : Reader) (p : List ℕ) (b : Lent) (v : verdict_of r (length p) (length b.gathering) (length b.addresses) (length b.output) ≡ (Ok tt)) where
  abbrev plan : Plan
  plan = plan_of r.opening p r.phase

  abbrev w : List ℕ
  w = wrote plan.forward (held_of r.phase) plan.consumed p

  may : Accepts r (length p) (length b.gathering) (length b.addresses) (length b.output)
  may = accepts r (length p) (length b.gathering) (length b.addresses) (length b.output) v

  room : length w ≤ length b.output
  room =
      let f = plan-fits r.opening p r.phase may.phase in
      wrote-fits plan.forward (held_of r.phase) plan.consumed p b.output f.within
      (λ i. omega (arith, may.forwards (f.forwards i), held_few r.opening r.phase may.phase, f.within))

  -- only an intermediary forwards
  none_written : r.opening.role ≡ Endpoint → w ≡ []
  unfolding wrote
  none_written e = go plan.forward refl
    where
      go : (f : Bool) → plan.forward ≡ f → wrote plan.forward (held_of r.phase) plan.consumed p ≡ []
      go true f = zero_one (let z = sym e ∙ (plan-fits r.opening p r.phase may.phase).forwards f in cc)
      go false f = unfold wrote only_if in rw f

  out : (feed_of r p b).buffers.output ≡ sets b.output 0 w
  unfolding take_of fed_by
  out = ap (λ (x : Feeding). x.buffers.output) (sym (feed_taken r p b v))

  count : (consumed written : ℕ) (ended : Option Report) → (take_of r p b).answer ≡ Ok (taking consumed written ended) → length w ≡ written
  unfolding take_of fed_by
  count consumed written ended e = ap (λ (a : Advance). a.written) (ok_same e)

  kept : (written : ℕ) → length w ≡ written → OutputKept r p b written
  kept written e = record {
    same_length = ap length out ∙ length-sets b.output 0 w;
    rest = subst (λ (n : ℕ). drop n (feed_of r p b).buffers.output ≡ drop n b.output) e (ap (drop (length w)) out ∙ drop-sets b.output w room);
    endpoint = λ f. (sym e ∙ ap length (none_written f), out ∙ ap (sets b.output 0) (none_written f));
    fits = subst (λ (n : ℕ). n ≤ length b.output) e room;
  }

pub output_exactly : OutputExactly
output_exactly r p b consumed written ended e = go (verdict_of r (length p) (length b.gathering) (length b.addresses) (length b.output)) refl
  where
    go : (v : (Result (Unit {0}) Refusal)) → verdict_of r (length p) (length b.gathering) (length b.addresses) (length b.output) ≡ v → OutputKept r p b written
    go (Err why) v = zero_one (let z = ap (λ (x : Feeding). x.answer) (feed_refused r p b why v) ∙ e in cc)
    go (Ok tt) v = kept r p b v written (count r p b v consumed written ended (ap (λ (x : Feeding). x.answer) (feed_taken r p b v) ∙ e))
