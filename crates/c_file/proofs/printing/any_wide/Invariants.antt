use Rattle.std.proofs.Common.{◌≡◌, drop}
use Rattle.c_file.specs.Made.{functions_of}
use Rattle.c_file.specs.Source.{any_wide}
use Rattle.c_file.proofs.printing.any_wide.Given as goal

-- the functions to come give what all give
abbrev pub invariant-loop-number : goal.invariant-loop-number
invariant-loop-number l =
    any_wide l.uses.reached.items l.number (drop l.number (functions_of l.made))
    ≡ any_wide l.uses.reached.items 0 (functions_of l.made)
