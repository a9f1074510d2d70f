-- Where there is room, `placed_one` of Placing joins word and number; where there is none, nothing changes.
use Rattle.walks.proofs.Words.{arith, ap, ◌∙◌, length}
use Rattle.text_lines.proofs.Decimals.{decimal_written}
use Rattle.text_lines.proofs.Placing.{no_room, written, length-one, placed_one}
use Rattle.text_lines.proofs.writing.write_one.Goals as goal

pub returns-then-has_room : goal.returns-then-has_room
returns-then-has_room c =
    let digits = c.as_bytes-digits.ensures.value ∙ c.format.ensures.text ∙ decimal_written c.args.n (omega arith) in
    let size = length-one c.args.word.now c.args.n _ (ap length digits) in
    let placed = placed_one _ _ _ _ _ _ _ digits c.put_text.ensures c.put_number.ensures in
    record { out_after = written _ _ _ _ size (c.has_room.ensures.0 c.if-has_room.true) _ placed; n_in_bounds = omega (arith, c.as_bytes-digits.ensures.len, c.format.ensures.fits) }

pub returns : goal.returns
returns c =
    let digits = c.as_bytes-digits.ensures.value ∙ c.format.ensures.text ∙ decimal_written c.args.n (omega arith) in
    let size = length-one c.args.word.now c.args.n _ (ap length digits) in
    record { out_after = no_room _ _ _ _ size (c.has_room.ensures.1 c.if-has_room.false); n_in_bounds = omega (arith, c.as_bytes-digits.ensures.len, c.format.ensures.fits) }
