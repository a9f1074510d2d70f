-- `put_frame`, by the length of the payload, the path size and the room. Assumes nothing.
use Rattle.walks.proofs.Words.{◌+◌, arith, length}
use Rattle.sending.proofs.Terms.{largest, encode, largest_quarter, length-encode, put_frame_by}
use Rattle.sending.proofs.Putting.{size_le, too_large, not_large, too_long, not_long, at-short, at-fits, frame_need}
use Rattle.sending.proofs.write.put_frame.Goals as goal

pub returns-then-payload_length-gt-MAX_LIMIT : goal.returns-then-payload_length-gt-MAX_LIMIT
unfolding put_frame_by
returns-then-payload_length-gt-MAX_LIMIT c = too_large _ _ c.if-payload_length-gt-MAX_LIMIT.true _

pub overflow_add-size : goal.overflow_add-size
overflow_add-size c = omega (arith, size_le _ _ c.least_size-size.ensures)

pub returns-then-size-payload_length : goal.returns-then-size-payload_length
unfolding put_frame_by
returns-then-size-payload_length c =
    let a = c.args in
    not_large _ a.payload_length (omega arith) (too_long _ (length (encode a.quarter.0) + a.payload_length) a.path (omega (arith, c.least_size-size.ensures, length-encode a.quarter.0)) _)

pub returns-then-not-has_room : goal.returns-then-not-has_room
unfolding put_frame_by
returns-then-not-has_room c =
    let a = c.args in
    not_large _ a.payload_length (omega arith)
    (not_long _ (length (encode a.quarter.0) + a.payload_length) a.path (omega (arith, c.least_size-size.ensures, length-encode a.quarter.0))
    (at-short _ _ _ _ (frame_need a.quarter.0 _ c.least_size-size.ensures a.payload.now) (grind arith)))

pub put-requires : goal.put-requires
unfolding largest largest_quarter
put-requires c = (omega (arith, c.requires.quarter_bound), omega (arith, c.least_size-size.ensures))

pub returns : goal.returns
unfolding put_frame_by
returns c =
    let a = c.args in
    not_large _ a.payload_length (omega arith)
    (not_long _ (length (encode a.quarter.0) + a.payload_length) a.path (omega (arith, c.least_size-size.ensures, length-encode a.quarter.0))
    (at-fits _ _ _ _ (frame_need a.quarter.0 _ c.least_size-size.ensures a.payload.now) (omega arith) _ c.put.ensures))
