-- By the tests: the laws `range-end`, `range-short` and `range-whole` of Reading.
use Rattle.walks.proofs.Words.{arith, ◌≡◌, get_or}
use Rattle.addresses.proofs.Terms.{width_of}
use Rattle.addresses.proofs.Reading as L
use Rattle.addresses.proofs.range_at.Goals as goal
use Rattle.addresses.proofs.range_at.Goals.{then-width-eq0-via-then-width-eq0, then-width-eq0-via-else-width-eq0+then-value-at}

pub returns-then-at-value : goal.returns-then-at-value
returns-then-at-value c = L.range-end c.args.value.now _ c.if-at-value.true

pub returns-then-width-eq0 : goal.returns-then-width-eq0
returns-then-width-eq0 c = let e : c.width_of-width.result ≡ width_of (get_or c.args.value.now c.args.at 0) = c.width_of-width.ensures.0 in
    elim c.then-width-eq0.branch [
      | then-width-eq0-via-then-width-eq0 w ↦ L.range-short c.args.value.now c.args.at _ (omega arith) (λ p l. omega arith)
      | then-width-eq0-via-else-width-eq0+then-value-at w ↦ L.range-short c.args.value.now c.args.at _ (omega arith) (λ p l. omega arith)
    ]

pub returns : goal.returns
returns c = let e : c.width_of-width.result ≡ width_of (get_or c.args.value.now c.args.at 0) = c.width_of-width.ensures.0 in
    rw e (L.range-whole c.args.value.now c.args.at (omega arith) (omega arith) (omega arith) (omega (arith, c.width_of-width.ensures.1)))
