-- Invariant: the bits of the address are clear exactly if those of the bytes left behind the prefix are.
use Rattle.walks.proofs.Words.{◌≡◌, drop}
use Rattle.addresses.proofs.Terms.{clear_beyond}
use Rattle.addresses.proofs.clear_beyond.Given as goal

abbrev pub invariant-loop-b : goal.invariant-loop-b
invariant-loop-b l = clear_beyond 0 (drop l.b-index l.b-items) ≡ clear_beyond l.prefix l.address
