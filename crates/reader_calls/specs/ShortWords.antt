-- Short ways that are tried on a reader in words: a contract inside the crate.
use Rattle.reader_answers.specs.declared.reader.FedAnswer.{FedAnswer}
use Rattle.std.specs.Prelude.{ℕ, ◌≡◌, List, Option, Some, None}
use Rattle.capsule.specs.Calls.{Lent}
use Rattle.reader_calls.specs.Reader.{fed, feed_words}

-- a short way that was not taken changed nothing, and one that was is the whole call
unfoldable pub TriedRight : List ℕ → List ℕ → Lent → Option FedAnswer → List ℕ → Lent → Type 0
TriedRight ws p b None ws' b' = (ws' ≡ ws) × (b' ≡ b)
TriedRight ws p b (Some a) ws' b' = fed a ws' b' ≡ feed_words ws p b
