use Rattle.std.proofs.Common.{◌≡◌, map}
use Rattle.flow_base.specs.Lists.{items_of}
use Rattle.c_subset.specs.Lines.{lines_in}
use Rattle.c_bare.specs.Scanning.{fewer_line}
use Rattle.c_bare.proofs.functions.fewer_lines.Given as goal

-- what was made of the lines so far
abbrev pub invariant-loop-line : goal.invariant-loop-line
invariant-loop-line l = lines_in (items_of l.made) ≡ map (fewer_line l.flags) (lines_in l.yielded)
