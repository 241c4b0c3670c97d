use Rattle.std.proofs.Common.{◌≡◌, drop}
use Rattle.c_subset.specs.Lines.{lines_in}
use Rattle.c_text.specs.Functions.{with_locals}
use Rattle.c_text.proofs.functions.add_locals.Given as goal

-- the lines to come add what all add
abbrev pub invariant-loop-line : goal.invariant-loop-line
invariant-loop-line l =
    with_locals (lines_in l.lines) l.seen.items (lines_in (drop l.line-index l.lines))
    ≡ with_locals (lines_in l.lines) l.fn.seen.items (lines_in l.lines)
