use Rattle.std.proofs.Common.{arith}
use Rattle.code_counts.proofs.Room.{steps_are_room, most_is_room}
use Rattle.code_counts.proofs.needed.room_of.Goals as goal

-- no event emits more than the count
pub returns-in-Some : goal.returns-in-Some
returns-in-Some c =
    most_is_room _ _ c.in-Some.count _ (rw c.in-Some.is at c.in_ok-found.ensures) (omega arith) (omega arith)
    (omega arith)

-- the count is more than the steps, of which each output takes one
pub returns-in_default : goal.returns-in_default
returns-in_default c = steps_are_room _ _ (omega arith)

-- no count is known
pub returns-in_default-2 : goal.returns-in_default-2
returns-in_default-2 c = steps_are_room _ _ (omega arith)
