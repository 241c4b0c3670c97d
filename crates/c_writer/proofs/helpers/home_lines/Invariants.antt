use Rattle.std.proofs.Common.{◌≡◌, ◌-◌, ◌++◌}
use Rattle.std.specs.List.{range_with_len}
use Rattle.flow_base.specs.Lists.{items_of}
use Rattle.active_config.specs.Tree.{state_count}
use Rattle.c_subset.specs.Lines.{lines_in, lines_of}
use Rattle.c_functions.specs.Files.{home_body}
use Rattle.c_shape.specs.FileShapes.{shape_seen}
use Rattle.c_writer.specs.Homes.{test_at}
use Rattle.c_writer.proofs.helpers.home_lines.Given as goal

-- what is written and what is left are the tests of all states
abbrev pub invariant-loop-state : goal.invariant-loop-state
invariant-loop-state l =
    let K = shape_seen l.shape in
    lines_in (items_of l.lines)
    ++ lines_of (home_body (test_at K l.home) (range_with_len l.state (state_count K.tree - l.state)))
    ≡ lines_of (home_body (test_at K l.home) (range_with_len 0 (state_count K.tree)))
