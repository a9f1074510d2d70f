-- By the tests: the laws `address_none`, `address-short` and `address-whole` of Reading.
use Rattle.walks.proofs.Words.{arith, ◌≡◌, ◌+◌, ◌-◌, get_or}
use Rattle.addresses.proofs.Terms.{width_of, entry_lent}
use Rattle.addresses.proofs.Reading as L
use Rattle.addresses.proofs.address_at.Goals as goal
use Rattle.addresses.proofs.address_at.Goals.{then-width-eq0-via-then-width-eq0, then-width-eq0-via-else-width-eq0+then-value-start}

pub returns-then-at-value : goal.returns-then-at-value
returns-then-at-value c = L.address_none c.args.value.now _ _ _ (omega arith)

pub returns-then-width-eq0 : goal.returns-then-width-eq0
returns-then-width-eq0 c = let e : c.width_of-width.result ≡ width_of (get_or c.args.value.now c.args.at 0) = c.width_of-width.ensures.0 in
    elim c.then-width-eq0.branch [
      | then-width-eq0-via-then-width-eq0 w ↦ L.address-short c.args.value.now _ c.args.at _ (omega arith) (λ p l. omega arith)
      | then-width-eq0-via-else-width-eq0+then-value-start w ↦ L.address-short c.args.value.now _ c.args.at _ (omega arith) (λ p l. omega arith)
    ]

pub returns : goal.returns
unfolding entry_lent
returns c =
    let e : c.width_of-width.result ≡ width_of (get_or c.args.value.now c.args.at 0) = c.width_of-width.ensures.0 in
    let d : c.args.at + 1 + c.width_of-width.result - (c.args.at + 1) ≡ c.width_of-width.result = omega arith in
    L.address-whole c.args.value.now c.args.id c.args.at _ (rw (← e, d)) (omega arith) (omega arith) (omega arith) (omega arith) (omega (arith, c.width_of-width.ensures.1))
