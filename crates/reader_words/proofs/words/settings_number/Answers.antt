-- By the two flags.
use Rattle.walks.proofs.Words.{sym, ◌∙◌, add-zero}
use Rattle.reader_words.proofs.Terms.{bit_of, settings_number}
use Rattle.reader_words.proofs.words.settings_number.Goals as goal

pub returns-then-draft : goal.returns-then-draft
unfolding settings_number bit_of
returns-then-draft c = rw (c.if-addresses.true, c.if-draft.true)

pub returns-then-addresses : goal.returns-then-addresses
unfolding settings_number bit_of
returns-then-addresses c = rw (c.if-addresses.true, c.if-draft.false)

pub returns : goal.returns
unfolding settings_number bit_of
returns c = rw c.if-addresses.false (c.bit_of.ensures ∙ sym (add-zero _))
