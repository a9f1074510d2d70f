-- More than 64 records are always refused. Assumes nothing.
use Rattle.walks.proofs.Words.{length, lt-ltb}
use Rattle.datagram.proofs.Terms.{is_bad, judged_of, sending_of, capsule_written, frame_written, write_capsule, write_frame, TooManyRefused}

pub too_many-refused : TooManyRefused
unfolding judged_of write_capsule write_frame sending_of capsule_written frame_written is_bad
too_many-refused t l id = (
  λ streams limit frame. rw (lt-ltb 64 (length t) l),
  λ payload out place. rw (lt-ltb 64 (length t) l),
  λ ours peers path payload out place. rw (lt-ltb 64 (length t) l),
)
