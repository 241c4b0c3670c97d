use Rattle.std.proofs.Common.{◌≡◌, ◌++◌}
use Rattle.std.specs.Prelude.{string_bytes}
use Rattle.c_shape.specs.FileShapes.{shape_seen}
use Rattle.c_header.specs.Fields.{texts_below, child_text}
use Rattle.c_header.proofs.states.print_children.Given as goal

-- the children so far are printed
abbrev pub invariant-loop-state : goal.invariant-loop-state
invariant-loop-state l =
    string_bytes l.out ≡ string_bytes l.fn.out ++ texts_below (child_text (shape_seen l.shape) l.parent) l.state
