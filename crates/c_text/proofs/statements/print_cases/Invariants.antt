use Rattle.std.proofs.Common.{◌≡◌, ◌++◌, drop}
use Rattle.std.specs.Prelude.{string_bytes}
use Rattle.c_subset.specs.Lines.{exprs_of}
use Rattle.c_text.specs.Labels.{labels_of}
use Rattle.c_text.specs.Statements.{cases_text}
use Rattle.c_text.proofs.statements.print_cases.Given as goal

-- what was printed, and the cases to come, are all
abbrev pub invariant-loop-case : goal.invariant-loop-case
invariant-loop-case l =
    string_bytes l.out
    ++ cases_text (labels_of l.labels) l.kind l.depth l.local (exprs_of l.args)
    (drop l.case-index l.cases)
    ≡ string_bytes l.fn.out
    ++ cases_text (labels_of l.labels) l.kind l.depth l.local (exprs_of l.args) l.cases
