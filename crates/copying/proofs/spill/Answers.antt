-- The invariant: a copy of the bytes passed; `turn` of Laws does one turn.
use Rattle.walks.proofs.Words.{arith, ℕ, refl, ap, ◌∙◌, length-set, le_antisymm, paste, paste-zero}
use Rattle.copying.proofs.Laws.{turn}
use Rattle.copying.proofs.spill.Goals as goal

pub loop-i-init : goal.loop-i-init
loop-i-init c = (omega arith, paste-zero c.args.dst.now c.args.to c.args.block.now, refl)

pub loop-i-preserved : goal.loop-i-preserved
loop-i-preserved c =
    (omega arith, turn c.loop-i.dst c.args.dst.now c.args.block.now c.args.to c.loop-i.i _ c.loop-i.invariant.1 refl (omega arith) (omega arith), simp length-set c.loop-i.invariant.2)

pub returns : goal.returns
returns c =
    c.loop-i.invariant.1 ∙ ap (λ (m : ℕ). paste c.args.dst.now c.args.to c.args.block.now m) (le_antisymm c.loop-i.invariant.0 c.loop-i-test.false)
