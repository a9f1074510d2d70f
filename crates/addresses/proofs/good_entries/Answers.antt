-- The law `turn` of Judging does an entry, by what `entry_at` finds.
use Rattle.walks.proofs.Words.{◌≡◌, sym, ◌∙◌, refl, Bool, cond, ◌&&◌, false, true, inl, inr, ⊎_elim, arith, drop}
use Rattle.addresses.proofs.Terms.{Entry, entries, entry_at, are_good, all_of, good_entry, asks, entry_lent, Inside}
use Rattle.std.specs.Prelude.{Ok, Some}
use Rattle.addresses.proofs.Judging as J
use Rattle.addresses.proofs.good_entries.Goals as goal
use Rattle.addresses.proofs.good_entries.Goals.{In-Ok-Some, Joined-else-asking}

abbrev rule : Bool → Entry → Bool
rule asking = cond asking asks good_entry

inside : (c : In-Ok-Some) → Inside c.args.value.now c.loop-entry.at (Ok (Some c.in-Ok-Some.entry))
inside c = rw (c.in-Ok-Some.is, c.in-Ok-Some.field-0-is) at c.entry_at.ensures.inside

turned : (c : In-Ok-Some) (t : Bool) → let v = c.args.value.now in
    rule c.args.asking (entry_lent c.in-Ok-Some.entry) ≡ t → t && are_good (all_of (rule c.args.asking)) (entries entry_at (drop c.in-Ok-Some.entry.next v)) ≡ are_good (all_of (rule c.args.asking)) (entries entry_at v)
turned c t h = let e = c.entry_at in
    rw h at (rw (c.in-Ok-Some.is, c.in-Ok-Some.field-0-is) at (J.turn (rule c.args.asking) c.args.value.now c.loop-entry.at e.result e.ensures)) ∙ c.loop-entry.invariant.1

judged : (c : Joined-else-asking) → rule c.args.asking (entry_lent c.in-Ok-Some.entry) ≡ good_entry (entry_lent c.in-Ok-Some.entry)
unfolding entry_lent
judged c = J.asks_some c.args.asking (entry_lent c.in-Ok-Some.entry) (⊎_elim (λ w. inr w.1) (λ w. inl w) c.else-asking.either)

pub loop-entry-init : goal.loop-entry-init
loop-entry-init c = (omega arith, refl)

pub returns-in-Ok-None : goal.returns-in-Ok-None
returns-in-Ok-None c = let e = c.entry_at in
    rw (c.in-Ok-None.is, c.in-Ok-None.field-0-is) at (J.turn (rule c.args.asking) c.args.value.now c.loop-entry.at e.result e.ensures) ∙ c.loop-entry.invariant.1

pub returns-in-Err : goal.returns-in-Err
returns-in-Err c = let e = c.entry_at in
    rw c.in-Err.is at (J.turn (rule c.args.asking) c.args.value.now c.loop-entry.at e.result e.ensures) ∙ c.loop-entry.invariant.1

pub returns-then-entry-eq0 : goal.returns-then-entry-eq0
unfolding entry_lent
returns-then-entry-eq0 c = turned (goal.at.returns-then-entry-eq0 c).In-Ok-Some false (J.asks_none c.args.asking (entry_lent c.in-Ok-Some.entry) c.if-asking.true c.if-entry-eq0.true)

pub is_good-requires : goal.is_good-requires
is_good-requires c = let i = inside (goal.at.is_good-requires c).In-Ok-Some in (i.2, i.3)

pub returns-then-not-is_good : goal.returns-then-not-is_good
returns-then-not-is_good c = turned (goal.at.returns-then-not-is_good c).In-Ok-Some false (judged (goal.at.returns-then-not-is_good c).Joined-else-asking ∙ sym c.is_good.ensures ∙ c.if-not-is_good.true)

pub loop-entry-smaller : goal.loop-entry-smaller
loop-entry-smaller c = omega (arith, inside (goal.at.loop-entry-smaller c).In-Ok-Some)

pub loop-entry-preserved : goal.loop-entry-preserved
loop-entry-preserved c = ((inside (goal.at.loop-entry-preserved c).In-Ok-Some).1, turned (goal.at.loop-entry-preserved c).In-Ok-Some true (judged (goal.at.loop-entry-preserved c).Joined-else-asking ∙ sym c.is_good.ensures ∙ c.if-not-is_good.false))
