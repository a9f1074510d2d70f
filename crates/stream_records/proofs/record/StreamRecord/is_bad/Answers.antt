-- `StreamRecord::is_bad`, by the ways in which `Flags` has a record bad. Assumes nothing.
use Rattle.walks.proofs.Words.{sym, ap, ◌∙◌, true, false, not, lt-ltb}
use Rattle.stream_records.proofs.Terms.{largest_quarter}
use Rattle.stream_records.proofs.Flags.{quarter_large, free_bad, sides_bad}
use Rattle.stream_records.proofs.record.StreamRecord.is_bad.Goals as goal
use Rattle.stream_records.proofs.record.StreamRecord.is_bad.Goals.{then-receive_open, else-receive_open}

pub returns-then-self : goal.returns-then-self
unfolding largest_quarter
returns-then-self c = lt-ltb _ _ c.if-self.true ∙ quarter_large _ (sym c.is_used.ensures ∙ c.if-is_used.true) c.if-self.true

pub returns-after-receive_open : goal.returns-after-receive_open
unfolding largest_quarter
returns-after-receive_open c =
    let used = sym c.is_used.ensures ∙ c.if-is_used.true in
    elim c.if-receive_open.branch [
      | then-receive_open w ↦ ap not (w.result-is ∙ w.if-receive_open.true) ∙ sides_bad _ used c.if-self.false true (sym c.receive_open.ensures ∙ w.if-receive_open.true)
      | else-receive_open w ↦ ap not (w.result-is ∙ w.send_open.ensures) ∙ sides_bad _ used c.if-self.false false (sym c.receive_open.ensures ∙ w.if-receive_open.false)
    ]

pub returns-else-is_used : goal.returns-else-is_used
returns-else-is_used c = ap not c.is_blank.ensures ∙ sym (free_bad _ (sym c.is_used.ensures ∙ c.if-is_used.false))
