-- What the calls promise, one after the other.
use Rattle.capi.proofs.Terms.{open_table}
use Rattle.capi.proofs.table.mrz_stream_open.Goals as goal

pub returns : goal.returns
unfolding open_table
returns c = rw (c.opened_answer.ensures, c.open_stream.ensures.1, c.open_stream.ensures.0, c.flag_of.ensures)
