use Rattle.walks.proofs.Words.{rules}
use Rattle.answers.proofs.Terms.{error_number}
use Rattle.answers.proofs.numbers.error_number.Goals as goal

pub returns-in-None : goal.returns-in-None
unfolding error_number
returns-in-None c = search rules

pub returns-in-Some : goal.returns-in-Some
unfolding error_number
returns-in-Some c = search rules
