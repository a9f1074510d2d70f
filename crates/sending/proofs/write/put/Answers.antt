-- `put`: a varint and a copied span, by `put_both`. Assumes nothing.
use Rattle.sending.proofs.Putting.{put_both}
use Rattle.sending.proofs.write.put.Goals as goal

pub returns : goal.returns
returns c = put_both c.args.head c.args.payload.now c.args.out.now c.args.at c.least_size-size.result c.write_varint.result c.write_varint.new.out c.copy_span.result c.copy_span.new.dst c.requires.0 c.requires.1 c.least_size-size.ensures c.write_varint.ensures c.copy_span.ensures
