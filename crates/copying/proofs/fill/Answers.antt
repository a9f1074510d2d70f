-- The invariant: a copy of the bytes passed; `turn0` of Laws does one turn.
use Rattle.walks.proofs.Words.{rules, arith, ℕ, sym, ap, ◌∙◌, length-set, take, drop, List, le_antisymm, paste, paste-zero, get_or-drop}
use Rattle.copying.proofs.Laws.{turn0, within, front, room}
use Rattle.copying.proofs.fill.Goals as goal

pub loop-i-init : goal.loop-i-init
loop-i-init c = (omega arith, paste-zero c.args.block.now 0 (drop c.args.from c.args.src.now), search rules)

pub loop-i-preserved : goal.loop-i-preserved
loop-i-preserved c =
    (omega arith, turn0 c.loop-i.block c.args.block.now (drop c.args.from c.args.src.now) c.loop-i.i _ c.loop-i.invariant.1 (sym (get_or-drop c.args.from c.args.src.now c.loop-i.i 0)) (omega arith) (within c.args.src.now c.args.from c.args.n c.loop-i.i (omega arith) (omega arith)), simp length-set c.loop-i.invariant.2)

pub returns : goal.returns
returns c =
    record { block_after = ap (λ (l : List ℕ). take c.args.n l) (c.loop-i.invariant.1 ∙ ap (λ (m : ℕ). paste c.args.block.now 0 (drop c.args.from c.args.src.now) m) (le_antisymm c.loop-i.invariant.0 c.loop-i-test.false)) ∙ front c.args.block.now (drop c.args.from c.args.src.now) c.args.n (room c.args.src.now c.args.from c.args.n (omega arith)); block_len_2 = c.loop-i.invariant.2 }
