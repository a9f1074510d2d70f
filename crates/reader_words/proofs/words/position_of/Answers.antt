-- The tests are the definition's: `is_within`, `is_between`, `is_other` of Position.
use Rattle.walks.proofs.Words.{arith}
use Rattle.reader_words.proofs.Terms.{reader_mark}
use Rattle.reader_words.proofs.Position.{is_other, is_between, is_within}
use Rattle.reader_words.proofs.words.position_of.Goals as goal

pub returns-then-words-lt-MARK : goal.returns-then-words-lt-MARK
unfolding reader_mark
returns-then-words-lt-MARK c = is_other _ (λ l h s f k. omega arith) (λ l h s f k a b d. omega arith)

pub returns-then-words : goal.returns-then-words
unfolding reader_mark
returns-then-words c = is_other _ (λ l h s f k. omega arith) (λ l h s f k a b d. omega arith)

pub returns-then-words-gt1 : goal.returns-then-words-gt1
unfolding reader_mark
returns-then-words-gt1 c = is_other _ (λ l h s f k. omega arith) (λ l h s f k a b d. omega arith)

pub returns-then-words-ne0 : goal.returns-then-words-ne0
unfolding reader_mark
returns-then-words-ne0 c = is_other _ (λ l h s f k. omega arith) (λ l h s f k a b d. omega arith)

pub returns-then-kind-eq2 : goal.returns-then-kind-eq2
unfolding reader_mark
returns-then-kind-eq2 c = is_within _ (omega arith) (omega arith) (omega arith) (omega arith) (omega arith)

pub returns-then-kind-ne0 : goal.returns-then-kind-ne0
unfolding reader_mark
returns-then-kind-ne0 c = is_other _ (λ l h s f k. omega arith) (λ l h s f k a b d. omega arith)

pub returns-then-words-ne0-2 : goal.returns-then-words-ne0-2
unfolding reader_mark
returns-then-words-ne0-2 c = is_other _ (λ l h s f k. omega arith) (λ l h s f k a b d. omega arith)

pub returns-then-words-ne0-3 : goal.returns-then-words-ne0-3
unfolding reader_mark
returns-then-words-ne0-3 c = is_other _ (λ l h s f k. omega arith) (λ l h s f k a b d. omega arith)

pub returns-then-words-ne0-4 : goal.returns-then-words-ne0-4
unfolding reader_mark
returns-then-words-ne0-4 c = is_other _ (λ l h s f k. omega arith) (λ l h s f k a b d. omega arith)

pub returns : goal.returns
unfolding reader_mark
returns c = is_between _ (omega arith) (omega arith) (omega arith) (omega arith) (omega arith) (omega arith) (omega arith) (omega arith)
