-- `write_datagram_header`: a header alone. Assumes nothing.
use Rattle.walks.proofs.Words.{◌∙◌}
use Rattle.sending.proofs.Putting.{header_alone}
use Rattle.sending.proofs.write.write_datagram_header.Goals as goal

pub returns : goal.returns
returns c = c.put_capsule.ensures ∙ header_alone _ _ _
