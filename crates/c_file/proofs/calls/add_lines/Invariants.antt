use Rattle.std.proofs.Common.{◌≡◌, ◌++◌, drop}
use Rattle.c_subset.specs.Lines.{lines_in}
use Rattle.c_file.specs.Calls.{calls_in}
use Rattle.c_file.proofs.calls.add_lines.Given as goal

-- what was added, and the lines to come, are all
abbrev pub invariant-loop-line : goal.invariant-loop-line
invariant-loop-line l =
    l.calls.items ++ calls_in l.caller (lines_in (drop l.line-index l.lines))
    ≡ l.fn.calls.items ++ calls_in l.caller (lines_in l.lines)
