use Rattle.std.proofs.Common.{◌≡◌, ◌++◌, drop}
use Rattle.std.specs.Prelude.{string_bytes}
use Rattle.c_subset.specs.Lines.{exprs_of}
use Rattle.c_text.specs.Labels.{labels_of}
use Rattle.c_text.specs.Statements.{arguments_text}
use Rattle.c_text.proofs.statements.print_arguments.Given as goal

-- what was printed, and the arguments to come, are all
abbrev pub invariant-loop-number : goal.invariant-loop-number
invariant-loop-number l =
    string_bytes l.out ++ arguments_text (labels_of l.labels) l.kind l.callee l.number (exprs_of (drop l.number l.args))
    ≡ string_bytes l.fn.out ++ arguments_text (labels_of l.labels) l.kind l.callee 0 (exprs_of l.args)
