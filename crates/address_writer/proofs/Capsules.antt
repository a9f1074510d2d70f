-- A capsule with a type of one byte. Assumes nothing.
use Rattle.walks.proofs.Words.{◌≡◌, ℕ, ◌+◌, arith, List, length}
use Rattle.address_writer.proofs.Terms.{least_size, shortest, written-length, one_written, capsule_of, OneCapsule, HeaderShortest}

pub capsule-length : (t : ℕ) (v : List ℕ) → length (capsule_of t v) ≡ 1 + least_size (length v) + length v
unfolding capsule_of
capsule-length t v = written-length t v

pub one-capsule : OneCapsule
unfolding capsule_of
one-capsule t v h l = one_written t v h l

pub header_shortest : HeaderShortest
header_shortest t v s size e = omega (arith, capsule-length t v, shortest s (length v) size e)
