-- What the two calls promise, one after the other.
use Rattle.walks.proofs.Words.{ap, ◌∙◌}
use Rattle.capi.proofs.Terms.{bit_of}
use Rattle.capi.proofs.address_capsules.mrz_address_value_good.Goals as goal

pub returns : goal.returns
returns c = c.bit_of.ensures ∙ ap bit_of c.well_formed-2.ensures
