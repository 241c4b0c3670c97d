use Rattle.std.proofs.Common.{◌≡◌, map, take}
use Rattle.flow_base.specs.Lists.{items_of}
use Rattle.c_subset.specs.Lines.{lines_in}
use Rattle.c_placing.specs.PlacedLines.{placed_line}
use Rattle.c_placing.proofs.placing.placed_lines.Given as goal

-- the lines so far are placed
abbrev pub invariant-loop-line : goal.invariant-loop-line
invariant-loop-line l =
    lines_in (items_of l.made) ≡ map (placed_line l.base) (lines_in (take l.line-index l.lines))
