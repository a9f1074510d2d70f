-- The part that is written is the text: `part_put` of Placing.
use Rattle.text_lines.proofs.Placing.{part_put}
use Rattle.text_lines.proofs.writing.put_text.Goals as goal

pub returns : goal.returns
returns c = part_put c.args.out.now c.args.text.now _ c.args.at c.requires c.copy_from_slice.ensures.after
