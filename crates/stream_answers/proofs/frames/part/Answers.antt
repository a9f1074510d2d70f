-- `part`: the numbers as they stand. Assumes nothing.
use Rattle.walks.proofs.Words.{refl}
use Rattle.stream_answers.proofs.frames.part.Goals as goal

pub returns : goal.returns
returns c = refl
