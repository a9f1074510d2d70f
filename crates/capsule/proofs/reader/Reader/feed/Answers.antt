-- `feed_refused`.
use Rattle.walks.proofs.Words.{sym, ◌∙◌}
use Rattle.capsule.proofs.Verdicts.{feed_refused}
use Rattle.capsule.proofs.reader.Reader.feed.Goals as goal

pub returns-in-Err : goal.returns-in-Err
returns-in-Err c = feed_refused _ _ _ _ (sym c.verdict.ensures ∙ c.in-Err.is)
