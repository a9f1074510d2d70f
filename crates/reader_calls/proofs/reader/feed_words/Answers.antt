-- By what came of the short way: `was_fed`, or `was_nothing` and then the general way.
use Rattle.reader_calls.proofs.ShortWords.{was_nothing, was_fed}
use Rattle.reader_calls.proofs.reader.feed_words.Goals as goal

pub returns-in-Some : goal.returns-in-Some
returns-in-Some c = was_fed _ _ _ _ _ _ _ c.try_short.ensures c.in-Some.is

pub returns-in-None : goal.returns-in-None
returns-in-None c = was_nothing _ _ _ _ _ _ c.try_short.ensures c.in-None.is _ c.feed_loaded.ensures
