-- Invariant: the ranges below `low` are low and those from `high` on are not (`Searched`); `search_up` and `search_down` of Search halve it.
use Rattle.walks.proofs.Words.{◌+◌, ◌-◌, ◌/◌, ◌≤◌}
use Rattle.address_rules.proofs.Terms.{Rising}
use Rattle.address_rules.proofs.Search as S
use Rattle.address_rules.proofs.clear_from_all.Given as goal

abbrev pub invariant-loop-low : goal.invariant-loop-low
invariant-loop-low l = (l.low ≤ l.high) × (l.high ≤ (l.at - l.from) / (l.width + l.width + 2)) × (Rising l.value l.width l.from ((l.at - l.from) / (l.width + l.width + 2)) → S.Searched l.value l.width l.from l.at ((l.at - l.from) / (l.width + l.width + 2)) l.low l.high)

abbrev pub decreases-loop-low : goal.decreases-loop-low
decreases-loop-low l = l.high - l.low
