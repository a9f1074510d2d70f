-- Laws `inside-..` of FastPaths, one for each way out; what is moved fits (`fits`).
use Rattle.walks.proofs.Words.{arith, refl, sym, ◌∙◌}
use Rattle.fast_paths.proofs.Terms.{extent_most, makeable_value}
use Rattle.fast_paths.proofs.FastPaths.{large_limit, made_by, value_verdict, value_accepted, fits, left_most, inside_address, inside_unfit, inside_unmade, inside_ended, inside_taken}
use Rattle.fast_paths.proofs.feed_inside.Goals as goal

pub returns-then-op-gt-MAX_LIMIT : goal.returns-then-op-gt-MAX_LIMIT
returns-then-op-gt-MAX_LIMIT c = inside_unmade _ _ _ _ _ _ (large_limit _ c.if-op-gt-MAX_LIMIT.true)

pub returns-then-not-is_plain : goal.returns-then-not-is_plain
returns-then-not-is_plain c = inside_address _ _ _ _ _ _ (sym c.is_plain.ensures ∙ c.if-not-is_plain.true)

pub returns-then-not-is_makeable_value : goal.returns-then-not-is_makeable_value
returns-then-not-is_makeable_value c = inside_unmade _ _ _ _ _ _ (made_by _ _ c.if-op-gt-MAX_LIMIT.false (sym c.is_makeable_value.ensures ∙ c.if-not-is_makeable_value.true))

pub overflow_sub-place : goal.overflow_sub-place
overflow_sub-place c = omega (arith, makeable_value _ _ _ _ (sym c.is_makeable_value.ensures ∙ c.if-not-is_makeable_value.false), extent_most c.args.op c.args.ctype c.args.size)

pub move_bytes-last-requires : goal.move_bytes-last-requires
move_bytes-last-requires c =
    let v = value_accepted _ _ _ _ _ c.if-op-gt-MAX_LIMIT.false _ c.lent_verdict.ensures _ _ _ (sym c.is_makeable_value.ensures ∙ c.if-not-is_makeable_value.false) (sym c.ok.ensures.value ∙ c.in_ok-ok.was) in
    fits _ _ _ _ _ v _ _ _ _ _ (omega arith) (omega arith) (omega (arith, left_most _ _ _ _ _ v _ _ _ refl))

pub returns-then-left-n : goal.returns-then-left-n
returns-then-left-n c = inside_ended _ _ _ _ _ _ (sym c.is_plain.ensures ∙ c.if-not-is_plain.false) (value_accepted _ _ _ _ _ c.if-op-gt-MAX_LIMIT.false _ c.lent_verdict.ensures _ _ _ (sym c.is_makeable_value.ensures ∙ c.if-not-is_makeable_value.false) (sym c.ok.ensures.value ∙ c.in_ok-ok.was)) _ _ _ (omega arith) _ c.report.ensures c.move_bytes-last.ensures.gathering_after c.move_bytes-last.ensures.wrote

pub move_bytes-written-requires : goal.move_bytes-written-requires
move_bytes-written-requires c =
    let v = value_accepted _ _ _ _ _ c.if-op-gt-MAX_LIMIT.false _ c.lent_verdict.ensures _ _ _ (sym c.is_makeable_value.ensures ∙ c.if-not-is_makeable_value.false) (sym c.ok.ensures.value ∙ c.in_ok-ok.was) in
    fits _ _ _ _ _ v _ _ _ _ _ (omega arith) (omega arith) (omega (arith, left_most _ _ _ _ _ v _ _ _ refl))

pub returns-in_err-ok : goal.returns-in_err-ok
returns-in_err-ok c =
    let unfit = inside_unfit _ _ _ _ _ _ _ (value_verdict _ _ _ _ _ c.if-op-gt-MAX_LIMIT.false _ c.lent_verdict.ensures _ _ _ (sym c.is_makeable_value.ensures ∙ c.if-not-is_makeable_value.false)) (sym c.ok.ensures.value ∙ c.in_err-ok.was) in
    rw c.from_residual.ensures unfit

pub returns : goal.returns
returns c = inside_taken _ _ _ _ _ _ (sym c.is_plain.ensures ∙ c.if-not-is_plain.false) (value_accepted _ _ _ _ _ c.if-op-gt-MAX_LIMIT.false _ c.lent_verdict.ensures _ _ _ (sym c.is_makeable_value.ensures ∙ c.if-not-is_makeable_value.false) (sym c.ok.ensures.value ∙ c.in_ok-ok.was)) _ _ _ (omega arith) c.move_bytes-written.ensures.gathering_after c.move_bytes-written.ensures.wrote
