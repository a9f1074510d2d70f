-- Where there is room, `placed_two` of Placing joins word and numbers; where there is none, nothing changes.
use Rattle.walks.proofs.Words.{arith, ap, ◌∙◌, length}
use Rattle.text_lines.proofs.Decimals.{decimal_written}
use Rattle.text_lines.proofs.Placing.{no_room, written, length_two, placed_two}
use Rattle.text_lines.proofs.writing.write_two.Goals as goal

pub returns-then-has_room : goal.returns-then-has_room
returns-then-has_room c =
    let first = c.as_bytes-first.ensures.value ∙ c.format.ensures.text ∙ decimal_written c.args.m (omega arith) in
    let second = c.as_bytes-second.ensures.value ∙ c.format-2.ensures.text ∙ decimal_written c.args.n (omega arith) in
    let size = length_two c.args.word.now c.args.m c.args.n _ _ (ap length first) (ap length second) in
    let placed = placed_two _ _ _ _ _ _ _ _ _ _ first second c.put_text.ensures c.put_number.ensures c.put_number-then-has_room.ensures in
    record { out_after = written _ _ _ _ size (c.has_room.ensures.0 c.if-has_room.true) _ placed; n_in_bounds = omega (arith, c.as_bytes-first.ensures.len, c.as_bytes-second.ensures.len, c.format.ensures.fits, c.format-2.ensures.fits) }

pub returns : goal.returns
returns c =
    let first = c.as_bytes-first.ensures.value ∙ c.format.ensures.text ∙ decimal_written c.args.m (omega arith) in
    let second = c.as_bytes-second.ensures.value ∙ c.format-2.ensures.text ∙ decimal_written c.args.n (omega arith) in
    let size = length_two c.args.word.now c.args.m c.args.n _ _ (ap length first) (ap length second) in
    record { out_after = no_room _ _ _ _ size (c.has_room.ensures.1 c.if-has_room.false); n_in_bounds = omega (arith, c.as_bytes-first.ensures.len, c.as_bytes-second.ensures.len, c.format.ensures.fits, c.format-2.ensures.fits) }
