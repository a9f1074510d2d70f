-- By the room: `written` and `no_room` of Placing.
use Rattle.text_lines.proofs.Placing.{no_room, written}
use Rattle.walks.proofs.Words.{refl}
use Rattle.text_lines.proofs.writing.write_text.Goals as goal

pub put_text-requires : goal.put_text-requires
put_text-requires c = c.has_room.ensures.0 c.if-has_room.true

pub returns-then-has_room : goal.returns-then-has_room
returns-then-has_room c = written _ _ _ _ refl (c.has_room.ensures.0 c.if-has_room.true) _ c.put_text.ensures

pub returns : goal.returns
returns c = no_room _ _ _ _ refl (c.has_room.ensures.1 c.if-has_room.false)
