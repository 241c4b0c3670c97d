use Rattle.std.proofs.Common.{◌≡◌, ◌++◌, drop}
use Rattle.std.specs.Prelude.{string_bytes}
use Rattle.c_subset.specs.Lines.{lines_in}
use Rattle.c_text.specs.Functions.{unread_text}
use Rattle.c_text.proofs.functions.print_unread.Given as goal

-- what was printed, and the lines to come, are all
abbrev pub invariant-loop-local : goal.invariant-loop-local
invariant-loop-local l =
    string_bytes l.out ++ unread_text l.kind (lines_in l.lines) (drop l.local-index l.locals)
    ≡ string_bytes l.fn.out ++ unread_text l.kind (lines_in l.lines) l.locals
