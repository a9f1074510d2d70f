-- A flag's number is 1 or 0.
use mir.Val.{bool_byte}
use Rattle.walks.proofs.Words.{◌≡◌, Bool, true, false}
use Rattle.reader_words.proofs.Terms.{bit_of}
use Rattle.reader_words.proofs.numbers.bit_of.Goals as goal

pub returns : goal.returns
unfolding bit_of
returns c = go c.args.flag c.from.ensures
  where
    go : (b : Bool) → c.from.result ≡ bool_byte b → c.from.result ≡ bit_of b
    go true e = e
    go false e = e
