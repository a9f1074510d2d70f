-- Laws `whole-..` of FastPaths, one for each way out.
use Rattle.walks.proofs.Words.{refl, sym, ◌∙◌}
use Rattle.fast_paths.proofs.Terms.{value-within, short_reached}
use Rattle.fast_paths.proofs.FastPaths.{fresh_verdict, fresh_accepted, whole_unfit, whole_large, whole_long, whole-address}
use Rattle.fast_paths.proofs.feed_whole.Goals as goal

pub returns-then-op-gt-MAX_LIMIT : goal.returns-then-op-gt-MAX_LIMIT
returns-then-op-gt-MAX_LIMIT c = whole_large _ _ _ c.if-op-gt-MAX_LIMIT.true

pub returns-then-not-is_plain : goal.returns-then-not-is_plain
returns-then-not-is_plain c = whole-address _ _ _ _ _ _ (sym c.short_header.ensures ∙ c.in_ok-header.was) (sym c.is_plain.ensures ∙ c.if-not-is_plain.true)

pub take_whole-requires : goal.take_whole-requires
take_whole-requires c =
    let is_short = sym c.short_header.ensures ∙ c.in_ok-header.was in (
      fresh_accepted _ _ _ _ _ c.if-op-gt-MAX_LIMIT.false _ c.lent_verdict.ensures (sym c.ok.ensures.value ∙ c.in_ok-ok.was),
      is_short,
      sym c.is_plain.ensures ∙ c.if-not-is_plain.false,
      value-within c.args.op _ _ _ _ _ _ _ (short_reached c.args.op _ _ _ _ (c.type_inv.piece 2).fits is_short) refl,
    )

pub returns-in_err-ok : goal.returns-in_err-ok
returns-in_err-ok c = rw c.from_residual.ensures (whole_unfit _ _ _ _ (fresh_verdict _ _ _ _ _ c.if-op-gt-MAX_LIMIT.false _ c.lent_verdict.ensures) (sym c.ok.ensures.value ∙ c.in_err-ok.was))

pub returns-in_err-header : goal.returns-in_err-header
returns-in_err-header c = rw c.from_residual-in_err-header.ensures (whole_long _ _ _ (sym c.short_header.ensures ∙ c.in_err-header.was))
