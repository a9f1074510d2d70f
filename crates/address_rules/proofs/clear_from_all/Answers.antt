-- Invariant: the ranges below `low` are low and those from `high` on are not (`Searched`); `search_up` and `search_down` of Search halve it.
use Rattle.walks.proofs.Words.{arith, ◌≡◌, sym, ◌∙◌, ◌+◌, ◌-◌, ◌*◌, ◌/◌, ◌≤◌, ◌<◌, le_antisymm}
use Rattle.address_rules.proofs.Terms.{Rising, bytes_each, clear_from, range_in, nth}
use Rattle.address_rules.proofs.Judging as J
use Rattle.address_rules.proofs.Search as S
use Rattle.address_rules.proofs.clear_from_all.Goals as goal
use Rattle.address_rules.proofs.clear_from_all.Goals.{After-is_low, After-is_clear_from, After-loop-low, Else-low-count, In-loop-low}

spot : (c : In-loop-low) → let k = c.args.width + c.args.width + 2 in c.args.from + (c.loop-low.low + c.loop-low.high) / 2 * k + k ≤ c.args.at
spot c = S.place_of c.args.from c.args.at (c.args.width + c.args.width + 2) ((c.loop-low.low + c.loop-low.high) / 2) (omega arith) c.requires.0 (omega arith)

met : (c : After-loop-low) → let n = (c.args.at - c.args.from) / (c.args.width + c.args.width + 2) in Rising c.args.value.now c.args.width c.args.from n → S.Searched c.args.value.now c.args.width c.args.from c.args.at n c.loop-low.low c.loop-low.low
met c = let e : c.loop-low.high ≡ c.loop-low.low = le_antisymm c.loop-low-test.false c.loop-low.invariant.0 in λ r. rw e at (c.loop-low.invariant.2 r)

short : (c : Else-low-count) → c.loop-low.low < (c.args.at - c.args.from) / (c.args.width + c.args.width + 2)
short c = let f : (c.loop-low.low ≡ (c.args.at - c.args.from) / (c.args.width + c.args.width + 2) → ⊥) = c.if-low-count.false in omega arith

last-spot : (c : Else-low-count) → let k = c.args.width + c.args.width + 2 in c.args.from + c.loop-low.low * k + k ≤ c.args.at
last-spot c = S.place_of c.args.from c.args.at (c.args.width + c.args.width + 2) c.loop-low.low (omega arith) c.requires.0 ((let f : (c.loop-low.low ≡ (c.args.at - c.args.from) / (c.args.width + c.args.width + 2) → ⊥) = c.if-low-count.false in omega arith))

tested : (c : After-is_low) → c.is_low.result ≡ S.test c.args.value.now c.args.width c.args.from c.args.at ((c.loop-low.low + c.loop-low.high) / 2)
tested c =
    let v = c.args.value.now in
    let b = bytes_each v (λ i. (c.type_inv.value i).fits) in
    let m = c.args.from + (c.loop-low.low + c.loop-low.high) / 2 * (c.args.width + c.args.width + 2) in
    rw (J.lent_is v m c.args.width c.lent-other.result c.lent-other.ensures, J.lent_is v c.args.at c.args.width c.lent-range.result c.lent-range.ensures)
    at (c.is_low.ensures c.args.width (J.lent_wide v m c.args.width c.lent-other.result c.lent-other.ensures b (omega (arith, S.place_of c.args.from c.args.at (c.args.width + c.args.width + 2) ((c.loop-low.low + c.loop-low.high) / 2) (omega arith) c.requires.0 (omega (arith, c.loop-low.invariant.1))))) (J.lent_wide v c.args.at c.args.width c.lent-range.result c.lent-range.ensures b c.requires.1))

cleared : (c : After-is_clear_from) → c.is_clear_from.result ≡ clear_from (range_in c.args.value.now c.args.at c.args.width) (nth c.args.value.now c.args.width c.args.from c.loop-low.low)
cleared c =
    let v = c.args.value.now in
    let b = bytes_each v (λ i. (c.type_inv.value i).fits) in
    let m = c.args.from + c.loop-low.low * (c.args.width + c.args.width + 2) in
    rw (J.lent_is v m c.args.width c.lent-other-2.result c.lent-other-2.ensures, J.lent_is v c.args.at c.args.width c.lent-range.result c.lent-range.ensures)
    at (c.is_clear_from.ensures c.args.width (J.lent_wide v c.args.at c.args.width c.lent-range.result c.lent-range.ensures b c.requires.1) (J.lent_wide v m c.args.width c.lent-other-2.result c.lent-other-2.ensures b (omega (arith, S.place_of c.args.from c.args.at (c.args.width + c.args.width + 2) c.loop-low.low (omega arith) c.requires.0 (let f : (c.loop-low.low ≡ (c.args.at - c.args.from) / (c.args.width + c.args.width + 2) → ⊥) = c.if-low-count.false in omega arith)))))

pub loop-low-init : goal.loop-low-init
loop-low-init c = (omega arith, omega arith, λ r. S.search_starts c.args.value.now c.args.width c.args.from c.args.at _)

pub overflow_add-middle : goal.overflow_add-middle
overflow_add-middle c = omega (arith, S.count_half (c.args.at - c.args.from) c.args.width)

pub overflow_mul-middle : goal.overflow_mul-middle
overflow_mul-middle c = omega (arith, spot c)

pub overflow_add-from : goal.overflow_add-from
overflow_add-from c = omega (arith, spot c)

pub overflow_add-low : goal.overflow_add-low
overflow_add-low c = omega (arith, spot (goal.at.overflow_add-low c).In-loop-low)

pub loop-low-preserved-then-is_low : goal.loop-low-preserved-then-is_low
loop-low-preserved-then-is_low c = let m = (c.loop-low.low + c.loop-low.high) / 2 in let e : m < (c.args.at - c.args.from) / (c.args.width + c.args.width + 2) = omega arith in
    (omega arith, c.loop-low.invariant.1, λ r. S.search_up c.args.value.now c.args.width c.args.from c.args.at _ r c.loop-low.low c.loop-low.high (c.loop-low.invariant.2 r) m e (S.is_low c.args.value.now c.args.width c.args.from c.args.at m (sym (tested (goal.at.loop-low-preserved-then-is_low c).After-is_low) ∙ c.if-is_low.true)))

pub loop-low-preserved : goal.loop-low-preserved
loop-low-preserved c = let m = (c.loop-low.low + c.loop-low.high) / 2 in let e : m < (c.args.at - c.args.from) / (c.args.width + c.args.width + 2) = omega arith in
    (omega arith, omega arith, λ r. S.search_down c.args.value.now c.args.width c.args.from c.args.at _ r c.loop-low.low c.loop-low.high (c.loop-low.invariant.2 r) m e (S.not_low c.args.value.now c.args.width c.args.from c.args.at m (sym (tested (goal.at.loop-low-preserved c).After-is_low) ∙ c.if-is_low.false)))

pub returns-then-low-count : goal.returns-then-low-count
returns-then-low-count c = λ same d r. S.ends_low c.args.value.now c.args.width c.args.from c.args.at same d r c.loop-low.low (met (goal.at.returns-then-low-count c).After-loop-low) c.if-low-count.true

pub overflow_mul-low : goal.overflow_mul-low
overflow_mul-low c = omega (arith, last-spot c)

pub overflow_add-from-2 : goal.overflow_add-from-2
overflow_add-from-2 c = omega (arith, last-spot c)

pub returns : goal.returns
returns c = λ same d r. S.ends_at c.args.value.now c.args.width c.args.from c.args.at same d r c.loop-low.low (met (goal.at.returns c).After-loop-low) (short (goal.at.returns c).Else-low-count) c.is_clear_from.result (cleared (goal.at.returns c).After-is_clear_from)
