-- Each function's measure is three times the bytes that are left, and the field on top.
use Rattle.walks.proofs.Words.{◌+◌, ◌-◌, ◌*◌, length}
use Rattle.one_shot_listing.proofs.+listing.Given as goal

abbrev pub decreases-read_type : goal.decreases-read_type
decreases-read_type l = 3 * (length l.s.now - l.start)

abbrev pub decreases-read_length : goal.decreases-read_length
decreases-read_length l = 3 * (length l.s.now - l.at) + 1

abbrev pub decreases-read_value : goal.decreases-read_value
decreases-read_value l = 3 * (length l.s.now - l.at) + 2
