use Rattle.std.proofs.Common.{◌≡◌, drop}
use Rattle.c_subset.specs.Lines.{expr_of}
use Rattle.c_functions.specs.Events.{inputs_from}
use Rattle.c_functions.specs.Starts.{and_none_c}
use Rattle.c_expression_writer.proofs.outside_tests.and_no_input.Given as goal

-- what is tested and what is left are all inputs from the first one on
abbrev pub invariant-loop-number : goal.invariant-loop-number
invariant-loop-number l =
    and_none_c (expr_of l.made) (inputs_from l.first l.number (drop l.number l.events))
    ≡ and_none_c (expr_of l.fn.test) (inputs_from l.first 0 l.events)
