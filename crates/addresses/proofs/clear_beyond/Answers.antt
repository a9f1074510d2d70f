-- The laws `clear_at`, `clear_behind` and `clear_rest` of Runs.
use Rattle.walks.proofs.Words.{arith, true, false, ◌+◌, ◌/◌, sym, ◌∙◌, eq-eqb, ne_eqb}
use Rattle.addresses.proofs.Runs as R
use Rattle.addresses.proofs.clear_beyond.Goals as goal

pub loop-b-init : goal.loop-b-init
loop-b-init c = rw (R.part_is c.args.address.now (c.args.prefix / 8 + 1) (omega arith)) (rw c.if-not-clear_byte.false at (R.clear_at c.args.address.now c.args.prefix c.clear_byte.result (omega arith) c.clear_byte.ensures))

pub loop-b-preserved : goal.loop-b-preserved
loop-b-preserved c =
    R.clear_rest c.args.address.now (c.args.prefix / 8 + 1) (omega arith) c.loop-b.b-index true (λ i. (c.type_inv.address i).fits) c.loop-b-test.true (sym (eq-eqb _ 0 c.if-b-ne0.false))
    ∙ c.loop-b.invariant

pub returns-then-whole-address : goal.returns-then-whole-address
returns-then-whole-address c = R.clear_behind c.args.address.now c.args.prefix c.if-whole-address.true

pub returns-then-not-clear_byte : goal.returns-then-not-clear_byte
returns-then-not-clear_byte c =
    rw c.if-not-clear_byte.true at (R.clear_at c.args.address.now c.args.prefix c.clear_byte.result (omega arith) c.clear_byte.ensures)

pub returns-then-b-ne0 : goal.returns-then-b-ne0
returns-then-b-ne0 c =
    R.clear_rest c.args.address.now (c.args.prefix / 8 + 1) (omega arith) c.loop-b.b-index false (λ i. (c.type_inv.address i).fits) c.loop-b-test.true (sym (ne_eqb _ 0 c.if-b-ne0.true))
    ∙ c.loop-b.invariant

pub returns : goal.returns
returns c = R.clear_end _ 0 c.loop-b.b-index (omega arith) ∙ c.loop-b.invariant
