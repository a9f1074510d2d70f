use Rattle.walks.proofs.Words.{rules}
use Rattle.reader_words.proofs.Terms.{draft_in}
use Rattle.reader_words.proofs.words.draft_in.Goals as goal

pub returns : goal.returns
unfolding draft_in
returns c = search rules
