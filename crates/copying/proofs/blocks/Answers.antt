-- The invariant: a copy of the bytes passed; `more` of Laws does one block.
use Rattle.walks.proofs.Words.{rules, arith, ℕ, ◌+◌, refl, sym, ap, ◌∙◌, drop, List, le_antisymm, paste, paste-zero, drop-drop}
use Rattle.copying.proofs.Laws.{more, room}
use Rattle.copying.proofs.blocks.Goals as goal

pub loop-i-init : goal.loop-i-init
loop-i-init c =
    (omega arith, paste-zero c.args.dst.now c.args.to (drop c.args.from c.args.src.now), refl)

pub loop-i-smaller : goal.loop-i-smaller
loop-i-smaller c = omega (arith, c.least-k.ensures.result_nonzero (search rules) (search rules))

pub loop-i-preserved : goal.loop-i-preserved
loop-i-preserved c =
    (omega (arith, c.least-k.ensures.upper_bound.0), c.once.ensures ∙ ap (λ (d : List ℕ). paste d (c.args.to + c.loop-i.i) (drop (c.args.from + c.loop-i.i) c.args.src.now) c.least-k.result) c.loop-i.invariant.1 ∙ ap (λ (q : List ℕ). paste (paste c.args.dst.now c.args.to (drop c.args.from c.args.src.now) c.loop-i.i) (c.args.to + c.loop-i.i) q c.least-k.result) (sym (drop-drop c.loop-i.i c.args.from c.args.src.now)) ∙ more c.args.dst.now (drop c.args.from c.args.src.now) c.args.to c.loop-i.i c.least-k.result (omega arith) (room c.args.src.now c.args.from c.loop-i.i (omega arith)), search rules)

pub returns : goal.returns
returns c =
    c.loop-i.invariant.1 ∙ ap (λ (m : ℕ). paste c.args.dst.now c.args.to (drop c.args.from c.args.src.now) m) (le_antisymm c.loop-i.invariant.0 c.loop-i-test.false)
