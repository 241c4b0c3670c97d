use Rattle.std.proofs.Common.{◌≡◌, ◌++◌, drop}
use Rattle.std.specs.Prelude.{string_bytes}
use Rattle.c_text.specs.Functions.{declarations_text}
use Rattle.c_text.specs.Labels.{labels_of}
use Rattle.c_text.proofs.functions.print_declarations.Given as goal

-- what was printed, and the declarations to come, are all
abbrev pub invariant-loop-local : goal.invariant-loop-local
invariant-loop-local l =
    string_bytes l.out ++ declarations_text (labels_of l.labels) l.kind (drop l.local-index l.locals)
    ≡ string_bytes l.fn.out ++ declarations_text (labels_of l.labels) l.kind l.locals
