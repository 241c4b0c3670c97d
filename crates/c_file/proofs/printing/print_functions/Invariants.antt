use Rattle.std.proofs.Common.{◌≡◌, ◌++◌, drop}
use Rattle.std.specs.Prelude.{string_bytes}
use Rattle.c_text.specs.Labels.{labels_of}
use Rattle.c_file.specs.Comments.{said_of}
use Rattle.c_file.specs.Made.{functions_of}
use Rattle.c_file.specs.Source.{functions_text}
use Rattle.c_file.proofs.printing.print_functions.Given as goal

-- what was printed, and what is to come, are all
abbrev pub invariant-loop-number : goal.invariant-loop-number
invariant-loop-number l =
    string_bytes l.out
    ++ functions_text (labels_of l.made.labels) (said_of l.made.said) l.uses.changing.items (functions_of l.made)
    (drop l.number-index l.numbers)
    ≡ string_bytes l.fn.out
    ++ functions_text (labels_of l.made.labels) (said_of l.made.said) l.uses.changing.items (functions_of l.made) l.numbers
