use Rattle.std.proofs.Common.{◌≡◌, [], ◌∷◌, length, false}
use Rattle.c_subset.specs.Trees as c
use Rattle.c_subset.specs.Lines.{lines_in}
use Rattle.c_trees.specs.Reading.{opens_of, read_lines}
use Rattle.c_trees.proofs.reading.read_lines.Given as goal

-- the lines that are left, before those that were read
abbrev pub invariant-lines : goal.invariant-lines
invariant-lines l =
    read_lines (lines_in l.left.items) (opens_of l.stack)
    ≡ read_lines (lines_in l.fn.lines.items) (record { block = c.End; has_else = false } ∷ [])

abbrev pub decreases-lines : goal.decreases-lines
decreases-lines l = length l.left.items
