use Rattle.std.proofs.Common.{◌≡◌, ◌++◌, drop}
use Rattle.std.specs.Prelude.{string_bytes}
use Rattle.range_spans.specs.Boxes.{box_of}
use Rattle.range_text.specs.Lines.{spans_text}
use Rattle.range_text.proofs.lines.push_spans.Given as goal

-- what was appended, and the lines to come, are all
abbrev pub invariant-loop-number : goal.invariant-loop-number
invariant-loop-number l =
    string_bytes l.out ++ spans_text (box_of l.spans) l.number (drop l.number l.vars)
    ≡ string_bytes l.fn.out ++ spans_text (box_of l.spans) 0 l.vars
