-- Invariant: all IDs fit exactly if those left do.
use Rattle.walks.proofs.Words.{◌≡◌}
use Rattle.address_rows.proofs.Terms.{all_of, entries_in, id_fits}
use Rattle.address_rows.proofs.Rows.{ids}
use Rattle.address_rows.proofs.ids_fit.Given as goal

abbrev pub invariant-loop-record : goal.invariant-loop-record
invariant-loop-record l = all_of id_fits (entries_in l.row) ≡ all_of id_fits (ids l.row l.record-index)
