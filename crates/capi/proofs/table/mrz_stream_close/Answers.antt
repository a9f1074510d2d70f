-- What the calls promise, one after the other.
use Rattle.capi.proofs.Terms.{close_table}
use Rattle.capi.proofs.table.mrz_stream_close.Goals as goal

pub returns : goal.returns
unfolding close_table
returns c = rw (c.closed_answer.ensures, c.close_side.ensures.1, c.close_side.ensures.0, c.side_of.ensures)
