-- A copy that fits (`stored_some`, `forwarded`); a capsule that is gathered is not forwarded (`gathered_only`).
use Rattle.walks.proofs.Words.{sym, ◌∙◌}
use Rattle.fast_paths.proofs.Terms.{stored_some, stored_none, wrote_none}
use Rattle.fast_paths.proofs.FastPaths.{gathered_only, forwarded}
use Rattle.fast_paths.proofs.move_bytes.Goals as goal

pub returns-then-gathers : goal.returns-then-gathers
returns-then-gathers c =
    let is_gathered = sym c.gathers.ensures ∙ c.if-gathers.true in
    let pre = c.requires in
    record { gathering_after = stored_some _ _ _ _ _ _ is_gathered pre.0 pre.1 (pre.2 is_gathered) _ _ c.copy_span.ensures; wrote = wrote_none _ _ _ _ _ (gathered_only _ _ _ is_gathered) }

pub returns-then-forwards : goal.returns-then-forwards
returns-then-forwards c =
    let is_forwarded = sym c.forwards.ensures ∙ c.if-forwards.true in
    let pre = c.requires in
    record { gathering_after = stored_none _ _ _ _ _ _ (sym c.gathers.ensures ∙ c.if-gathers.false); wrote = forwarded _ _ _ _ _ is_forwarded pre.1 (pre.3 is_forwarded) _ _ c.copy_span-then-forwards.ensures }

pub returns : goal.returns
returns c = record { gathering_after = stored_none _ _ _ _ _ _ (sym c.gathers.ensures ∙ c.if-gathers.false); wrote = wrote_none _ _ _ _ _ (sym c.forwards.ensures ∙ c.if-forwards.false) }
