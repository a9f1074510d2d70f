-- What holds of the contracts. Each claim is a type here, and is proved in proofs/Refusals.antt.
use Rattle.std.specs.Prelude.{◌≡◌, ℕ, List, Err}
use Rattle.refusals.specs.declared.Refusal.{Refusal}
use Rattle.capsule.specs.declared.reader.Reader.{Reader}
use Rattle.capsule.specs.Calls.{Lent}
use Rattle.capsule.specs.Reader.{feeding, feed_of, closing, close_of}
use Rattle.host.specs.declared.reader.Connection.{Connection}
use Rattle.host.specs.Connections.{SameBeside}

-- a refusal changes nothing behind any reference: `feed_in_place`, `close_in_place`, `feed_connection`, `close_connection`
abbrev pub RefusedFeedLeaves : Type 0
RefusedFeedLeaves =
    (r r' : Reader) (p : List ℕ) (b b' : Lent) (why : Refusal)
    → feeding r' (Err why) b' ≡ feed_of r p b
    → (r' ≡ r) × (b' ≡ b)

abbrev pub RefusedCloseLeaves : Type 0
RefusedCloseLeaves =
    (r r' : Reader) (why : Refusal)
    → closing r' (Err why) ≡ close_of r
    → r' ≡ r

abbrev pub RefusedFeedLeavesConnection : Type 0
RefusedFeedLeavesConnection =
    (c c' : Connection) (p : List ℕ) (b b' : Lent) (why : Refusal)
    → feeding c'.reader (Err why) b' ≡ feed_of c.reader p b
    → SameBeside c c'
    → (c' ≡ c) × (b' ≡ b)

abbrev pub RefusedCloseLeavesConnection : Type 0
RefusedCloseLeavesConnection =
    (c c' : Connection) (why : Refusal)
    → closing c'.reader (Err why) ≡ close_of c.reader
    → SameBeside c c'
    → c' ≡ c
