-- `write_datagram`: a header and its payload. Assumes nothing.
use Rattle.sending.proofs.Terms.{put_capsule, put_capsule_by, capsule_bytes}
use Rattle.sending.proofs.write.write_datagram.Goals as goal

pub returns : goal.returns
unfolding put_capsule put_capsule_by capsule_bytes
returns c = c.put_capsule.ensures
