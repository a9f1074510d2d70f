-- `StreamRecord::with_closed`, by a flag that is clear already, or is cleared by a difference that does not wrap. Assumes nothing.
use Rattle.walks.proofs.Words.{sym, ◌∙◌}
use Rattle.stream_records.proofs.Flags.{clear_already, cleared, flag_within, without_flag}
use Rattle.stream_records.proofs.record.StreamRecord.with_closed.Goals as goal

pub overflow_sub-result : goal.overflow_sub-result
overflow_sub-result c = flag_within c.args.self _ _ c.flag-bit.ensures (sym c.has.ensures ∙ c.if-has.true)

pub returns-then-has : goal.returns-then-has
returns-then-has c = cleared _ _ (sym c.has.ensures ∙ c.if-has.true) ∙ without_flag c.args.self _ _ c.flag-bit.ensures

pub returns-else-has : goal.returns-else-has
returns-else-has c = sym (clear_already _ _ (sym c.has.ensures ∙ c.if-has.false)) ∙ without_flag c.args.self _ _ c.flag-bit.ensures
