-- Whether one of the records seen so far has the number of the quarter.
use Rattle.std.specs.List.{list_any}
use Rattle.walks.proofs.Words.{◌≡◌, take}
use Rattle.streams.proofs.Meeting.{meets}
use Rattle.streams.proofs.table.stands_below.Given as goal

abbrev pub invariant-loop-r : goal.invariant-loop-r
invariant-loop-r l = l.met ≡ list_any (meets l.quarter.0) (take l.r-index (take l.place l.rows))
