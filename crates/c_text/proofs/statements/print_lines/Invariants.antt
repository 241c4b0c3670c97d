use Rattle.std.proofs.Common.{◌≡◌, ◌≤◌, ◌+◌, ◌++◌, drop}
use Rattle.std.specs.Prelude.{string_bytes}
use Rattle.c_subset.specs.Lines.{lines_in}
use Rattle.c_text.specs.Labels.{labels_of}
use Rattle.c_text.specs.Statements.{lines_text}
use Rattle.c_text.proofs.statements.print_lines.Given as goal

-- what was printed, and the lines to come, are all; there is at most one more depth than there were lines
abbrev pub invariant-loop-line : goal.invariant-loop-line
invariant-loop-line l = record {
  text : string_bytes l.out
      ++ lines_text (labels_of l.labels) l.kind (lines_in l.lines) l.result_type l.depth (lines_in (drop l.line-index l.lines))
      ≡ string_bytes l.fn.out ++ lines_text (labels_of l.labels) l.kind (lines_in l.lines) l.result_type 1 (lines_in l.lines);
  deep : l.depth ≤ l.line-index + 1;
}
