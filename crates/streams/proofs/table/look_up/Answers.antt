-- By what was found.
use Rattle.walks.proofs.Words.{◌∙◌}
use Rattle.streams.proofs.Terms.{lookup_right}
use Rattle.streams.proofs.table.look_up.Goals as goal

pub returns : goal.returns
returns c = c.lookup.ensures ∙ lookup_right c.args.quarter.0 c.args.rows.now _ c.look_through.ensures
