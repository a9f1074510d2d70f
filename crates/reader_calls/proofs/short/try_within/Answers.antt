-- By what `feed_inside` answered: `within_not`, `within-fed`, `within_ended` of ShortWords.
use Rattle.reader_calls.proofs.ShortWords.{within_not, within-fits, within-fed, within_ended}
use Rattle.reader_calls.proofs.short.try_within.Goals as goal

pub overflow_sub-words : goal.overflow_sub-words
overflow_sub-words c = within-fits _ _ _ _ c.opening_in-opening.ensures c.requires _ _ (rw (c.in_ok-inside.was, c.in-Took.is) at c.feed_inside.ensures)

pub returns-in_err-inside : goal.returns-in_err-inside
returns-in_err-inside c = rw c.from_residual.ensures (within_not _ _ _ _ c.opening_in-opening.ensures c.requires _ (rw c.in_err-inside.was at c.feed_inside.ensures))

pub returns-in-Took : goal.returns-in-Took
returns-in-Took c =
    within-fed _ _ _ _ c.opening_in-opening.ensures c.requires c.told-words _ _ (rw (c.in_ok-inside.was, c.in-Took.is) at c.feed_inside.ensures) _ c.fed_took.ensures

pub returns-in-Ended : goal.returns-in-Ended
returns-in-Ended c =
    within_ended _ _ _ _ c.opening_in-opening.ensures c.requires c.told-words _ _ _ _ (rw (c.in_ok-inside.was, c.in-Ended.is) at c.feed_inside.ensures) _ c.fed_report.ensures
