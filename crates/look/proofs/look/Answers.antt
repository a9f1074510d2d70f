-- The test is the definition's; what is left is `place_of`.
use Rattle.walks.proofs.Words.{sym, ◌∙◌}
use Rattle.look.proofs.Terms.{parted, is_opening, is_makeable, is_makeable_phase, sight_of, look_of}
use Rattle.look.proofs.look.Goals as goal

pub returns-then-not-is_makeable : goal.returns-then-not-is_makeable
unfolding look_of sight_of
returns-then-not-is_makeable c = rw (sym c.is_makeable.ensures ∙ c.if-not-is_makeable.true)

pub place_of-place-requires : goal.place_of-place-requires
unfolding look_of sight_of
place_of-place-requires c = let r = c.args.reader in unfold is_makeable in (parted (is_opening r.opening) (is_makeable_phase r.opening r.phase) (sym c.is_makeable.ensures ∙ c.if-not-is_makeable.false)).1

pub returns : goal.returns
unfolding look_of sight_of
returns c = rw (sym c.is_makeable.ensures ∙ c.if-not-is_makeable.false, c.place_of-place.ensures)
