-- By whether enough bytes came: `goes_part` and `goes_whole` of Parts; `goes` has the bounds.
use Rattle.walks.proofs.Words.{arith, ◌-◌, ◌*◌, ◌/◌, ◌^◌, length-take-le}
use Rattle.wire.proofs.Terms.{size_of, is_partial}
use Rattle.wire.proofs.Parts.{Goes, goes, goes_part, goes_whole}
use Rattle.wire.proofs.partial.Partial.go_on.Goals as goal
use Rattle.wire.proofs.partial.Partial.go_on.Goals.{Start}

went : (c : Start) → Goes c.args.self.have c.args.self.raw (size_of (c.args.self.raw / 2 ^ (8 * (c.args.self.have - 1))))
unfolding is_partial
went c = goes _ _ c.requires.0 c.requires.1

pub size-size-requires : goal.size-size-requires
size-size-requires c = let g = went (goal.at.size-size-requires c).Start in (c.requires.0, omega arith, g.byte)

pub overflow_sub-missing : goal.overflow_sub-missing
overflow_sub-missing c = let g = went (goal.at.overflow_sub-missing c).Start in rw (c.from.ensures, c.size-size.ensures) (omega (arith, g.more))

pub with_bytes-requires : goal.with_bytes-requires
with_bytes-requires c = let g = went (goal.at.with_bytes-requires c).Start in (omega (arith, g.more, g.most, c.from.ensures, c.size-size.ensures), g.fits)

pub returns-then-s-missing : goal.returns-then-s-missing
unfolding is_partial
returns-then-s-missing c =
    rw c.with_bytes.ensures (goes_part c.args.s.now c.args.self.have c.args.self.raw c.requires.0 c.requires.1 (omega (arith, c.from.ensures, c.size-size.ensures)))

pub with_bytes-whole-requires : goal.with_bytes-whole-requires
with_bytes-whole-requires c =
    let g = went (goal.at.with_bytes-whole-requires c).Start in
    (omega (arith, g.more, g.most, c.from.ensures, c.size-size.ensures, length-take-le _ c.args.s.now c.if-s-missing.false), g.fits)

pub value_of-requires : goal.value_of-requires
value_of-requires c = let g = went (goal.at.value_of-requires c).Start in (omega (arith, g.more, c.size-size.ensures), omega (arith, g.most, c.size-size.ensures))

pub returns : goal.returns
unfolding is_partial
returns c =
    rw (c.value_of.ensures, c.with_bytes-whole.ensures, c.from.ensures)
    (goes_whole c.args.s.now c.args.self.have c.args.self.raw c.size-size.result c.requires.0 c.requires.1 c.size-size.ensures (rw c.from.ensures at c.if-s-missing.false))
