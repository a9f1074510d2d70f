-- One list of words for each phase.
use Rattle.reader_words.proofs.Terms.{words_of, phase_words}
use Rattle.reader_words.proofs.words.words_of.Goals as goal

pub returns-in-InType : goal.returns-in-InType
unfolding words_of phase_words
returns-in-InType c = rw (c.role_word-role.ensures, c.settings_number-settings.ensures, c.bit_of-finished.ensures, c.from.ensures, c.in-InType.is)

pub returns-in-InLength : goal.returns-in-InLength
unfolding words_of phase_words
returns-in-InLength c = rw (c.role_word-role.ensures, c.settings_number-settings.ensures, c.bit_of-finished.ensures, c.from-in-InLength.ensures, c.in-InLength.is)

pub returns-in-InValue : goal.returns-in-InValue
unfolding words_of phase_words
returns-in-InValue c = rw (c.role_word-role.ensures, c.settings_number-settings.ensures, c.bit_of-finished.ensures, c.in-InValue.is)
