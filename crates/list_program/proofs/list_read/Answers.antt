-- The loop's invariant is `Standing` of Feedings; `stands_took` does one feeding, `all_listed` the end. The bytes that are not used up fall.
use Rattle.list_program.proofs.Feedings.{stands-first, all_listed, unrefused, used-more, used-some, stands_took}
use Rattle.walks.proofs.Words.{arith, ◌≡◌, ℕ, length}
use Rattle.list_program.proofs.Terms.{Bytes, bytes_each, lent_of}
use Rattle.list_program.proofs.list_read.Goals as goal
use Rattle.list_program.proofs.list_read.Goals.{At-loop-used}

-- what was read is bytes
bytes : (c : At-loop-used) → Bytes c.args.input.now
bytes c = bytes_each c.args.input.now (λ i. (c.type_inv.input i).fits)

pub loop-used-init : goal.loop-used-init
loop-used-init c =
    let w = c.requires in
    let b = c.args.buffers.now in
    let g : 1200 ≡ length b.gathering = omega arith in
    let a : ◌≡◌ {A = ℕ} 0 (length b.addresses) = omega arith in
    let o : ◌≡◌ {A = ℕ} 0 (length b.output) = omega arith in
    stands-first c.args.l _ (lent_of c.args.buffers.now) _ (record { used = w.used; have = omega arith; held = omega arith; ready = rw (← g, ← a, ← o) w.ready })

pub returns-in-Err : goal.returns-in-Err
returns-in-Err c =
    unrefused c.args.l c.loop-used.invariant c.feed-fed.ensures _ c.in-Err.is

pub overflow_add-used : goal.overflow_add-used
overflow_add-used c =
    omega (arith, used-more c.args.l c.loop-used.invariant c.feed-fed.ensures _ _ _ c.in-Ok.is)

pub loop-used-smaller : goal.loop-used-smaller
loop-used-smaller c =
    omega (arith, used-some c.args.l c.loop-used.invariant c.feed-fed.ensures (bytes (goal.at.loop-used-smaller c).At-loop-used) c.loop-used-test.true _ _ _ c.in-Ok.is, used-more c.args.l c.loop-used.invariant c.feed-fed.ensures _ _ _ c.in-Ok.is)

pub loop-used-preserved : goal.loop-used-preserved
loop-used-preserved c =
    stands_took c.args.l c.loop-used.invariant c.feed-fed.ensures (bytes (goal.at.loop-used-preserved c).At-loop-used) c.feed-fed.auto.gathering c.feed-fed.auto.addresses c.feed-fed.auto.output _ _ _ c.in-Ok.is _ _ c.note-held.ensures

pub returns-after-loop-used : goal.returns-after-loop-used
returns-after-loop-used c =
    all_listed c.args.l c.loop-used.invariant (λ _. c.loop-used-test.false)

pub returns-else-held-ge-LONGEST : goal.returns-else-held-ge-LONGEST
returns-else-held-ge-LONGEST c =
    all_listed c.args.l c.loop-used.invariant (λ h. omega (arith, h, c.if-held-ge-LONGEST.false))
