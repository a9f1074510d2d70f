-- The cases on stream tables, computed. Assumes nothing.
use Rattle.walks.proofs.Words.{refl}
use Rattle.stream_records.proofs.Terms.{is_request, largest_quarter, quarter_of, flag, both_closed, is_blank, is_bad_record, holds, without, with_closed, closed_side, any_bad, stands_in, stands_twice, is_bad, next, find, entry_at, lowest_free, open_at, open_entry, opening_of, close_entry, closing_of, table_opened, table_closed, Pinned, closings}

pub pinned : Pinned
unfolding is_bad any_bad stands_in stands_twice is_bad_record is_blank both_closed holds flag largest_quarter find next is_request quarter_of entry_at lowest_free open_at open_entry opening_of without with_closed closed_side close_entry closing_of table_opened table_closed closings
pinned = (refl, refl)
