use Rattle.std.proofs.Common.{◌≡◌, drop}
use Rattle.std.specs.List.{list_any}
use Rattle.c_subset.specs.Lines.{lines_in}
use Rattle.c_text.specs.Reading.{line_reads}
use Rattle.c_text.proofs.reading.any_line_reads.Given as goal

-- the lines to come give what all give
abbrev pub invariant-loop-line : goal.invariant-loop-line
invariant-loop-line l =
    list_any (line_reads l.local) (lines_in (drop l.line-index l.lines))
    ≡ list_any (line_reads l.local) (lines_in l.lines)
