use Rattle.std.proofs.Common.{◌≡◌, ◌++◌, drop}
use Rattle.std.specs.Prelude.{string_bytes}
use Rattle.range_text.specs.Lines.{over_of, overs_text}
use Rattle.range_text.proofs.lines.push_overs.Given as goal

-- what was appended, and the lines to come, are all
abbrev pub invariant-loop-number : goal.invariant-loop-number
invariant-loop-number l =
    string_bytes l.out ++ overs_text (over_of l.over) l.number (drop l.number l.vars)
    ≡ string_bytes l.fn.out ++ overs_text (over_of l.over) 0 l.vars
