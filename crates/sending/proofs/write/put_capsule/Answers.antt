-- `put_capsule`, by the length of the payload and the room. Assumes nothing.
use Rattle.walks.proofs.Words.{◌∙◌, arith, ◌++◌, length-set}
use Rattle.sending.proofs.Terms.{largest, encode, capsule_header, put_capsule_by}
use Rattle.sending.proofs.Putting.{size_le, too_large, not_large, at-short, at-fits, capsule_need, after_type}
use Rattle.sending.proofs.write.put_capsule.Goals as goal

pub returns-then-payload_length-gt-MAX_LIMIT : goal.returns-then-payload_length-gt-MAX_LIMIT
unfolding put_capsule_by
returns-then-payload_length-gt-MAX_LIMIT c = too_large _ _ c.if-payload_length-gt-MAX_LIMIT.true _

pub overflow_add-need : goal.overflow_add-need
overflow_add-need c = omega (arith, size_le _ _ c.least_size.ensures)

pub overflow_add-need-2 : goal.overflow_add-need-2
overflow_add-need-2 c = omega (arith, size_le _ _ c.least_size.ensures)

pub returns-then-not-has_room : goal.returns-then-not-has_room
unfolding put_capsule_by
returns-then-not-has_room c =
    let a = c.args in
    not_large _ a.payload_length (omega arith) (at-short _ _ _ _ (capsule_need a.payload_length _ c.least_size.ensures a.payload.now) (grind arith))

pub put-requires : goal.put-requires
unfolding largest
put-requires c = simp length-set (omega arith, omega (arith, c.least_size.ensures))

pub returns : goal.returns
unfolding put_capsule_by capsule_header
returns c =
    let a = c.args in
    not_large _ a.payload_length (omega arith) (at-fits _ _ _ _ (capsule_need a.payload_length _ c.least_size.ensures a.payload.now) (omega arith) _ (c.put.ensures ∙ after_type (encode a.payload_length ++ a.payload.now) a.out.now a.place))
