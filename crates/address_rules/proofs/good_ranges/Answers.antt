-- Invariant: what was seen (Pass), where it stands, and that the pass over the ranges left decides; the law `turn` of Judging does a range.
use Rattle.walks.proofs.Words.{arith, ◌≡◌, sym, ◌∙◌, refl, Bool, true, false, ◌&&◌, ◌+◌, drop, get_or}
use Rattle.address_rules.proofs.Terms.{bytes_each, entries, range_at, are_good, good_ranges, range_in, RangeInside, nothing, pass, fits, after, same_of, started_at, Stands, width_of}
use Rattle.std.specs.Prelude.{Ok, Some}
use Rattle.address_rules.proofs.Judging as J
use Rattle.address_rules.proofs.good_ranges.Goals as goal
use Rattle.address_rules.proofs.good_ranges.Goals.{After-is_fit, After-start_of-start, In-Ok-Some}

inside : (c : In-Ok-Some) → RangeInside c.args.value.now c.loop-width.at (Ok (Some c.in-Ok-Some.width))
inside c = rw (c.in-Ok-Some.is, c.in-Ok-Some.field-0-is) at c.range_at.ensures.inside

begins : (c : After-start_of-start) → c.start_of-start.result ≡ started_at c.loop-width.previous (get_or c.args.value.now c.loop-width.at 0) c.loop-width.from c.loop-width.at
begins c = rw c.lent-range.ensures.0 at c.start_of-start.ensures

stands : (c : After-start_of-start) → c.in-Ok-Some.width ≡ width_of (get_or c.args.value.now c.loop-width.at 0)
    → let v = c.args.value.now in let st = c.loop-width.invariant.1.0 in Stands v c.in-Ok-Some.width c.start_of-start.result (same_of st.previous st.same (range_in v c.loop-width.at c.in-Ok-Some.width)) c.loop-width.at
stands c w = let i = c.loop-width.invariant.1 in
    J.started c.args.value.now c.loop-width.at c.in-Ok-Some.width c.loop-width.from c.start_of-start.result c.loop-width.previous w (begins c) i.0.previous i.0.same i.1 i.2

fit : (c : After-is_fit) → c.in-Ok-Some.width ≡ width_of (get_or c.args.value.now c.loop-width.at 0)
    → c.is_fit.result ≡ fits c.loop-width.invariant.1.0 (range_in c.args.value.now c.loop-width.at c.in-Ok-Some.width)
fit c w = let v = c.args.value.now in let i = c.loop-width.invariant.1 in
    let b : c.start_of-start.result ≡ started_at c.loop-width.previous (get_or v c.loop-width.at 0) c.loop-width.from c.loop-width.at = rw c.lent-range.ensures.0 at c.start_of-start.ensures in
    c.is_fit.ensures i.0 i.1 w
    (J.started v c.loop-width.at c.in-Ok-Some.width c.loop-width.from c.start_of-start.result c.loop-width.previous w b i.0.previous i.0.same i.1 i.2)
    (J.rising v c.loop-width.at c.in-Ok-Some.width c.loop-width.from c.start_of-start.result c.loop-width.previous w b i.0.previous i.0.same i.1 i.3)

turned : (c : After-is_fit) (t : Bool) → c.in-Ok-Some.width ≡ width_of (get_or c.args.value.now c.loop-width.at 0)
    → let v = c.args.value.now in let st = after c.loop-width.invariant.1.0 (range_in v c.loop-width.at c.in-Ok-Some.width) in
    c.is_fit.result ≡ t → t && are_good (pass st) (entries range_at (drop (c.loop-width.at + (c.in-Ok-Some.width + c.in-Ok-Some.width + 2)) v)) ≡ are_good good_ranges (entries range_at v)
turned c t w h = let i = c.loop-width.invariant.1 in
    rw (sym (fit c w) ∙ h) at (rw (c.in-Ok-Some.is, c.in-Ok-Some.field-0-is) at (J.turn i.0 c.args.value.now c.loop-width.at c.range_at.result c.range_at.ensures)) ∙ i.4

pub loop-width-init : goal.loop-width-init
loop-width-init c = (omega arith, (nothing, tt, refl, tt, J.pass-starts (entries range_at c.args.value.now)))

pub returns-in-Ok-None : goal.returns-in-Ok-None
returns-in-Ok-None c = let i = c.loop-width.invariant.1 in
    rw (c.in-Ok-None.is, c.in-Ok-None.field-0-is) at (J.turn i.0 c.args.value.now c.loop-width.at c.range_at.result c.range_at.ensures) ∙ i.4

pub returns-in-Err : goal.returns-in-Err
returns-in-Err c = let i = c.loop-width.invariant.1 in
    rw c.in-Err.is at (J.turn i.0 c.args.value.now c.loop-width.at c.range_at.result c.range_at.ensures) ∙ i.4

pub lent-range-requires : goal.lent-range-requires
lent-range-requires c = (inside (goal.at.lent-range-requires c).In-Ok-Some).0

pub is_fit-requires : goal.is_fit-requires
is_fit-requires c = let v = c.args.value.now in let st = c.loop-width.invariant.1.0 in let n = inside (goal.at.is_fit-requires c).In-Ok-Some in
    (J.stands_le v c.in-Ok-Some.width c.start_of-start.result c.loop-width.at (same_of st.previous st.same (range_in v c.loop-width.at c.in-Ok-Some.width)) (stands (goal.at.is_fit-requires c).After-start_of-start n.1), n.0)

pub returns-then-not-is_fit : goal.returns-then-not-is_fit
returns-then-not-is_fit c = turned (goal.at.returns-then-not-is_fit c).After-is_fit false (inside (goal.at.returns-then-not-is_fit c).In-Ok-Some).1 c.if-not-is_fit.true

pub overflow_add-at : goal.overflow_add-at
overflow_add-at c = omega (arith, inside (goal.at.overflow_add-at c).In-Ok-Some)

pub loop-width-smaller : goal.loop-width-smaller
loop-width-smaller c = omega (arith, inside (goal.at.loop-width-smaller c).In-Ok-Some)

pub loop-width-preserved : goal.loop-width-preserved
unfolding after
loop-width-preserved c = let v = c.args.value.now in let at = c.loop-width.at in let w = c.in-Ok-Some.width in
    let i = c.loop-width.invariant.1 in let n = inside (goal.at.loop-width-preserved c).In-Ok-Some in
    let b = begins (goal.at.loop-width-preserved c).After-start_of-start in
    let s = stands (goal.at.loop-width-preserved c).After-start_of-start n.1 in
    let r = c.lent-range in (
      n.0,
      (
        after i.0 (range_in v at w),
        J.precedes v at w c.loop-width.from c.start_of-start.result c.loop-width.previous n.1 b r.result (J.lent_is v at w r.result r.ensures) (J.lent_wide v at w r.result r.ensures (bytes_each v (λ i. (c.type_inv.value i).fits)) n.0),
        J.continued v at w c.loop-width.from c.start_of-start.result c.loop-width.previous n.1 b i.0.previous i.0.same s,
        J.ranked v at w c.loop-width.from c.start_of-start.result c.loop-width.previous n.1 b i.0 i.1 i.3 s (sym (fit (goal.at.loop-width-preserved c).After-is_fit n.1) ∙ c.if-not-is_fit.false),
        turned (goal.at.loop-width-preserved c).After-is_fit true n.1 c.if-not-is_fit.false,
      ),
    )
