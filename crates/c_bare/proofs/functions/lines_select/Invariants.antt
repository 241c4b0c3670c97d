use Rattle.std.proofs.Common.{◌≡◌, drop}
use Rattle.std.specs.List.{list_all}
use Rattle.c_subset.specs.Lines.{lines_in}
use Rattle.c_bare.specs.Scanning.{line_selects}
use Rattle.c_bare.proofs.functions.lines_select.Given as goal

-- the lines to come give what all give
abbrev pub invariant-loop-line : goal.invariant-loop-line
invariant-loop-line l =
    list_all (line_selects l.flags) (lines_in (drop l.line-index l.lines))
    ≡ list_all (line_selects l.flags) (lines_in l.lines)
