use Rattle.std.proofs.Common.{◌≡◌, ◌++◌, drop}
use Rattle.std.specs.Prelude.{string_bytes}
use Rattle.c_text.specs.Functions.{parameters_text}
use Rattle.c_text.specs.Labels.{labels_of}
use Rattle.c_text.proofs.functions.print_parameters.Given as goal

-- what was printed, and the parameters to come, are all
abbrev pub invariant-loop-number : goal.invariant-loop-number
invariant-loop-number l =
    string_bytes l.out ++ parameters_text (labels_of l.labels) l.kind l.number (drop l.number l.parameters)
    ≡ string_bytes l.fn.out ++ parameters_text (labels_of l.labels) l.kind 0 l.parameters
