use Rattle.std.proofs.Common.{◌∙◌, sym}
use Rattle.c_shape.proofs.NoteLemmas.{room_of_none, room_of_some}
use Rattle.c_shape.proofs.file_shape.note_room.Goals as goal

pub returns-then-is_empty : goal.returns-then-is_empty
returns-then-is_empty c =
    room_of_none c.args.noted.now c.args.height c.args.bounds.steps (sym c.is_empty.ensures ∙ c.if-is_empty.true)

pub returns-else-is_empty : goal.returns-else-is_empty
returns-else-is_empty c =
    rw (c.from.ensures, c.from-else-is_empty.ensures)
    (room_of_some c.args.noted.now c.args.height c.args.bounds.steps (sym c.is_empty.ensures ∙ c.if-is_empty.false))
