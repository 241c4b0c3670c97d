use Rattle.std.proofs.Common.{◌≡◌, ◌++◌, drop}
use Rattle.std.specs.Prelude.{string_bytes}
use Rattle.c_text.specs.Labels.{labels_of}
use Rattle.c_file.specs.Made.{functions_of}
use Rattle.c_file.specs.Source.{each_declared}
use Rattle.c_file.proofs.printing.print_each_declared.Given as goal

-- what was printed, and what is to come, are all
abbrev pub invariant-loop-number : goal.invariant-loop-number
invariant-loop-number l =
    string_bytes l.out
    ++ each_declared (labels_of l.made.labels) l.uses.changing.items (functions_of l.made)
    (drop l.number-index l.numbers)
    ≡ string_bytes l.fn.out
    ++ each_declared (labels_of l.made.labels) l.uses.changing.items (functions_of l.made) l.numbers
