use Rattle.walks.proofs.Words.{rules}
use Rattle.reader_words.proofs.Terms.{addresses_in}
use Rattle.reader_words.proofs.words.addresses_in.Goals as goal

pub returns : goal.returns
unfolding addresses_in
returns c = search rules
