-- What passes the four tests is read by its phase: `reads_so`, `reads_not`.
use Rattle.walks.proofs.Words.{sym, ◌∙◌, arith}
use Rattle.reader_words.proofs.Terms.{reader_mark, with_phase}
use Rattle.reader_words.proofs.StoredForm.{reads_so}
use Rattle.reader_words.proofs.words.load.Goals as goal

pub returns-in_err-phase : goal.returns-in_err-phase
unfolding with_phase reader_mark
returns-in_err-phase c = rw c.from_residual.ensures (reads_so _ (omega arith) (omega arith) (omega arith) (omega arith) _ (rw (sym c.load_phase.ensures ∙ c.in_err-phase.was)))

pub returns : goal.returns
unfolding with_phase reader_mark
returns c = reads_so _ (omega arith) (omega arith) (omega arith) (omega arith) _ (rw (sym c.load_phase.ensures ∙ c.in_ok-phase.was, c.flag_of.ensures, c.addresses_in.ensures, c.draft_in.ensures, c.role_in.ensures))
