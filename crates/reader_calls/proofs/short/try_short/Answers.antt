-- By what `position_of` answers, which is what each short way requires.
use Rattle.walks.proofs.Words.{refl}
use Rattle.reader_calls.proofs.Terms.{between_reads, within_reads}
use Rattle.reader_calls.proofs.ShortWords.{tried_nothing}
use Rattle.reader_calls.proofs.short.try_short.Goals as goal

pub try_between-requires : goal.try_between-requires
try_between-requires c = between_reads _ (rw c.in-Between.is at c.position_of.ensures)

pub try_within-requires : goal.try_within-requires
try_within-requires c = within_reads _ (rw c.in-Within.is at c.position_of.ensures)

pub returns-in-Other : goal.returns-in-Other
returns-in-Other c = tried_nothing _ _ _ _ _ refl refl
