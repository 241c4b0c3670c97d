use Rattle.std.proofs.Common.{◌≡◌, ◌++◌, map, drop}
use Rattle.std.specs.Prelude.{string_bytes}
use Rattle.code_fields.specs.Spelling.{var_line}
use Rattle.code_text.specs.Spelling.{text_of}
use Rattle.code_text.proofs.printer.print_each_var.Given as goal

-- what was printed, and the lines to come, are all
abbrev pub invariant-loop-var : goal.invariant-loop-var
invariant-loop-var l =
    string_bytes l.out ++ text_of (map var_line (drop l.var-index l.vars)) ≡ string_bytes l.fn.out ++ text_of (map var_line l.vars)
