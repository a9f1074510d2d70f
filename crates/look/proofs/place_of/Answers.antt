-- One answer for each phase; that a makeable value has no more bytes to come than its extent is `makeable_value`.
use Rattle.walks.proofs.Words.{◌≡◌, subst, true}
use Rattle.look.proofs.Terms.{Phase, is_makeable_phase, makeable_value, place_of}
use Rattle.look.proofs.place_of.Goals as goal

pub overflow_sub-extent : goal.overflow_sub-extent
unfolding place_of
overflow_sub-extent c = let a = c.args in let m = makeable_value a.opening _ _ _ (subst (λ (p : Phase). is_makeable_phase a.opening p ≡ true) c.in-InValue.is c.requires) in rw c.extent.ensures m

pub returns-in-InLength : goal.returns-in-InLength
unfolding place_of
returns-in-InLength c = rw c.in-InLength.is

pub returns-in-InValue : goal.returns-in-InValue
unfolding place_of
returns-in-InValue c = rw (c.in-InValue.is, c.stored_in-gathered.ensures, c.buffer_of-buffer.ensures, c.extent.ensures)
