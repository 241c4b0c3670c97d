use Rattle.std.proofs.Common.{◌≡◌, ◌++◌, ◌-◌}
use Rattle.std.specs.Prelude.{string_bytes}
use Rattle.c_text.specs.Statements.{indent}
use Rattle.c_text.proofs.statements.print_indent.Given as goal

-- what was printed, and the blanks to come, are all
abbrev pub invariant-loop-level : goal.invariant-loop-level
invariant-loop-level l =
    string_bytes l.out ++ indent (l.depth - l.level) ≡ string_bytes l.fn.out ++ indent l.depth
