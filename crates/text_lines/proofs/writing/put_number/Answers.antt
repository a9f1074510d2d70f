-- Digits, then the byte after them: `sets_then` of Placing.
use Rattle.text_lines.proofs.Placing.{sets_then}
use Rattle.walks.proofs.Words.{length, refl}
use Rattle.text_lines.proofs.writing.put_number.Goals as goal

pub returns : goal.returns
returns c = sets_then c.args.out.now c.args.at (length c.args.digits.now) c.args.digits.now _ _ _ refl c.put_text.ensures refl
