-- Each field is what its function reads.
use Rattle.reader_words.proofs.Terms.{opening_in}
use Rattle.reader_words.proofs.words.opening_in.Goals as goal

pub returns : goal.returns
unfolding opening_in
returns c = rw (c.role_in.ensures, c.draft_in.ensures, c.addresses_in.ensures)
