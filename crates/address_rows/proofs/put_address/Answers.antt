-- By the version: the law `put_address_as` of Putting, and `put_none` for no version.
use Rattle.walks.proofs.Words.{arith}
use Rattle.address_rows.proofs.Putting.{put_address_as, put_none, width-four, width-six}
use Rattle.address_rows.proofs.put_address.Goals as goal

pub returns-in-4 : goal.returns-in-4
returns-in-4 c = rw c.copy_from_slice.ensures.after (put_address_as c.args.address.now c.args.out.now c.args.version c.args.at 4 (width-four c.args.version c.in-4.is) c.requires.0 (omega (arith, c.requires.1)))

pub returns-in-6 : goal.returns-in-6
returns-in-6 c = rw c.copy_from_slice-in-6.ensures.after (put_address_as c.args.address.now c.args.out.now c.args.version c.args.at 16 (width-six c.args.version c.in-6.is) c.requires.0 c.requires.1)

pub returns-in_default : goal.returns-in_default
returns-in_default c = put_none c.args.address.now c.args.out.now c.args.version c.args.at (λ e. omega (arith, e)) (λ e. omega (arith, e))
