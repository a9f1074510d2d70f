-- By what was loaded and what the feeding answered: `feed_nothing`, `feed_kept`, `feed_stored` of ReaderCalls.
use Rattle.walks.proofs.Words.{sym, ◌∙◌}
use Rattle.reader_calls.proofs.ReaderCalls.{feed_nothing, feed_kept, feed_stored}
use Rattle.reader_calls.proofs.reader.feed_loaded.Goals as goal

pub returns-in_default : goal.returns-in_default
returns-in_default c = feed_nothing _ _ _ _ (sym c.load.ensures ∙ c.in_default.is) c.feed_refused.ensures

pub returns-in-Err : goal.returns-in-Err
returns-in-Err c = feed_kept _ _ _ _ _ _ _ _ (sym c.load.ensures ∙ c.in-Some.is) c.feed-fed.ensures _ c.in-Err.is c.feed_refused-in-Err.ensures

pub returns-in-Ok : goal.returns-in-Ok
returns-in-Ok c = feed_stored _ _ _ _ _ _ _ _ (sym c.load.ensures ∙ c.in-Some.is) c.feed-fed.ensures _ _ _ _ c.in-Ok.is c.fed_took.ensures c.store.ensures
