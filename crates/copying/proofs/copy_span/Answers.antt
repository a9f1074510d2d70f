-- By the four tests: `source_short`, `target_short` and `copies` of Laws.
use Rattle.walks.proofs.Words.{arith}
use Rattle.copying.proofs.Laws.{copies, source_short, target_short}
use Rattle.copying.proofs.copy_span.Goals as goal

pub returns-then-src-from : goal.returns-then-src-from
returns-then-src-from c = source_short _ _ _ _ _ (omega arith)

pub returns-then-src-from-2 : goal.returns-then-src-from-2
returns-then-src-from-2 c = source_short _ _ _ _ _ (omega arith)

pub returns-then-dst-to : goal.returns-then-dst-to
returns-then-dst-to c = target_short _ _ _ _ _ (omega arith) (omega arith)

pub returns-then-dst-to-2 : goal.returns-then-dst-to-2
returns-then-dst-to-2 c = target_short _ _ _ _ _ (omega arith) (omega arith)

pub returns : goal.returns
returns c = copies _ _ _ _ _ (omega arith) (omega arith) _ c.blocks-2.ensures
