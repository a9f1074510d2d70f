use Rattle.walks.proofs.Words.{rules}
use Rattle.reader_words.proofs.Terms.{flag_of}
use Rattle.reader_words.proofs.numbers.flag_of.Goals as goal

pub returns : goal.returns
unfolding flag_of
returns c = search rules
