use Rattle.std.proofs.Common.{◌≡◌, ◌++◌}
use Rattle.std.specs.Prelude.{string_bytes}
use Rattle.c_shape.specs.FileShapes.{shape_seen}
use Rattle.c_text.specs.Labels.{labels_of}
use Rattle.c_header.specs.Fields.{texts_below}
use Rattle.c_header.specs.Header.{state_text}
use Rattle.c_header.proofs.states.print_states.Given as goal

-- what is written about the states so far is printed
abbrev pub invariant-loop-state : goal.invariant-loop-state
invariant-loop-state l =
    string_bytes l.out
    ≡ string_bytes l.fn.out
    ++ texts_below (state_text l.chart (labels_of l.labels) (shape_seen l.shape) l.about) l.state
