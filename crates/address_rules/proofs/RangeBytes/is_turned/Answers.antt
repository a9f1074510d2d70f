-- What `is_below` promises.
use Rattle.walks.proofs.Words.{◌∙◌, sym}
use Rattle.address_rules.proofs.Terms.{range_lent}
use Rattle.address_rules.proofs.RangeBytes.is_turned.Goals as goal

pub returns : goal.returns
unfolding range_lent
returns c = λ w a. c.is_below.ensures (a.1 ∙ sym a.0)
