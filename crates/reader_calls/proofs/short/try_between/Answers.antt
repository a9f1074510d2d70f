-- By what `feed_whole` answered: `between_not`, `between_fed`, `between_cut` of ShortWords.
use Rattle.reader_calls.proofs.ShortWords.{between_not, between_fed, between_cut}
use Rattle.reader_calls.proofs.short.try_between.Goals as goal

pub returns-in_err-whole : goal.returns-in_err-whole
returns-in_err-whole c = rw c.from_residual.ensures (between_not _ _ _ _ c.opening_in-opening.ensures c.requires (c.type_inv.piece 2).fits _ (rw c.in_err-whole.was at c.feed_whole.ensures))

pub returns-in-Took : goal.returns-in-Took
returns-in-Took c =
    between_fed _ _ _ _ c.opening_in-opening.ensures c.requires (c.type_inv.piece 2).fits c.told-words _ _ _ _ (rw (c.in_ok-whole.was, c.in-Took.is) at c.feed_whole.ensures) _ c.fed_report.ensures

pub returns-in-Cut : goal.returns-in-Cut
returns-in-Cut c =
    between_cut _ _ _ _ c.opening_in-opening.ensures c.requires (c.type_inv.piece 2).fits c.told-words _ _ _ _ _ (rw (c.in_ok-whole.was, c.in-Cut.is) at c.feed_whole.ensures) _ c.fed_took.ensures
