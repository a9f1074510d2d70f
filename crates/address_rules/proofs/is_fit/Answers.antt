-- By the tests, in their order: the laws `fit-..` of Judging.
use Rattle.walks.proofs.Words.{◌≡◌, sym, ap, ◌∙◌, ltb, get_or}
use Rattle.address_rules.proofs.Terms.{Seen, Preceded, bytes_each, width_of, before, range_in, range_lent}
use Rattle.address_rules.proofs.Judging as J
use Rattle.address_rules.proofs.is_fit.Goals as goal
use Rattle.address_rules.proofs.is_fit.Goals.{After-is_turned, After-is_before}

turned : (c : After-is_turned) → let r = range_in c.args.value.now c.args.at c.args.width in c.is_turned.result ≡ ltb r.end r.start
turned c =
    let v = c.args.value.now in
    rw (J.lent_is v c.args.at c.args.width c.lent-range.result c.lent-range.ensures)
    at (c.is_turned.ensures c.args.width (J.lent_wide v c.args.at c.args.width c.lent-range.result c.lent-range.ensures (bytes_each v (λ i. (c.type_inv.value i).fits)) c.requires.1))

ordered : (c : After-is_before) → (st : Seen) → Preceded st.previous c.args.previous → c.args.width ≡ width_of (get_or c.args.value.now c.args.at 0)
    → c.is_before.result ≡ before (range_lent c.in-Some.before) (range_in c.args.value.now c.args.at c.args.width)
ordered c st h w =
    let v = c.args.value.now in
    let k : c.args.width ≡ width_of c.lent-range.result.version = w ∙ ap width_of (sym c.lent-range.ensures.0) in
    rw (J.lent_is v c.args.at c.args.width c.lent-range.result c.lent-range.ensures)
    at (c.is_before.ensures (J.preceded_wide st.previous c.in-Some.before (rw c.in-Some.is at h)) (rw k at (J.lent_wide v c.args.at c.args.width c.lent-range.result c.lent-range.ensures (bytes_each v (λ i. (c.type_inv.value i).fits)) c.requires.1)))

pub returns-then-is_turned : goal.returns-then-is_turned
returns-then-is_turned c = λ st h w d k. J.fit_turned st _ (sym (turned (goal.at.returns-then-is_turned c).After-is_turned) ∙ c.if-is_turned.true)

pub returns-in_default : goal.returns-in_default
returns-in_default c = λ st h w d k. J.fit_first st c.args.previous h _ (sym (turned (goal.at.returns-in_default c).After-is_turned) ∙ c.if-is_turned.false) c.in_default.is

pub returns-then-not-is_before : goal.returns-then-not-is_before
returns-then-not-is_before c = λ st h w d k. J.fit_unordered st c.args.previous h _ (sym (turned (goal.at.returns-then-not-is_before c).After-is_turned) ∙ c.if-is_turned.false) c.in-Some.before c.in-Some.is (sym (ordered (goal.at.returns-then-not-is_before c).After-is_before st h w) ∙ c.if-not-is_before.true)

pub returns-then-for_all : goal.returns-then-for_all
returns-then-for_all c = λ st h w d k. J.fit_zero st c.args.previous h _ (sym (turned (goal.at.returns-then-for_all c).After-is_turned) ∙ c.if-is_turned.false) c.in-Some.before c.in-Some.is (sym (ordered (goal.at.returns-then-for_all c).After-is_before st h w) ∙ c.if-not-is_before.false) (J.protocol_in c.args.value.now c.args.at c.args.width ∙ sym c.lent-range.ensures.3 ∙ c.if-for_all.true)

pub returns : goal.returns
returns c = λ st h w d k.
    let z : (range_in c.args.value.now c.args.at c.args.width).protocol ≡ 0 → ⊥ = λ e. c.if-for_all.false (c.lent-range.ensures.3 ∙ sym (J.protocol_in c.args.value.now c.args.at c.args.width) ∙ e) in
    c.clear_from_all.ensures _ d k
    ∙ J.fit_other st c.args.previous h _ (sym (turned (goal.at.returns c).After-is_turned) ∙ c.if-is_turned.false) c.in-Some.before c.in-Some.is (sym (ordered (goal.at.returns c).After-is_before st h w) ∙ c.if-not-is_before.false) z
