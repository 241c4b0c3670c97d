use Rattle.std.proofs.Common.{◌≡◌, ◌++◌, drop}
use Rattle.c_text.specs.Functions.{parameters_from}
use Rattle.c_text.proofs.functions.parameters_of.Given as goal

-- those made, and those to come, are all
abbrev pub invariant-loop-number : goal.invariant-loop-number
invariant-loop-number l =
    l.locals.items ++ parameters_from l.number (drop l.number l.types) ≡ parameters_from 0 l.types
