-- By what was loaded and what the close answered; the law `close_by` of ReaderCalls does every case but that of no reader.
use Rattle.walks.proofs.Words.{refl, sym, ◌∙◌}
use Rattle.capi.proofs.Terms.{words_closed, close-nothing, close_by}
use Rattle.capi.proofs.reader.mrz_reader_close.Goals as goal

pub returns-in_default : goal.returns-in_default
returns-in_default c = close-nothing _ _ (sym c.load.ensures ∙ c.in_default.is) c.closed_answer.ensures

pub returns-in-Err : goal.returns-in-Err
unfolding words_closed
returns-in-Err c = close_by _ _ _ _ (sym c.load.ensures ∙ c.in-Some.is) c.close-closed.ensures c.closed_answer-in-Err.ensures _ c.in-Err.is _ refl

pub returns-in-Ok : goal.returns-in-Ok
unfolding words_closed
returns-in-Ok c = close_by _ _ _ _ (sym c.load.ensures ∙ c.in-Some.is) c.close-closed.ensures c.closed_answer-in-Ok.ensures _ c.in-Ok.is _ c.store.ensures
