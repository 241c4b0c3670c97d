use Rattle.std.proofs.Common.{◌≡◌, map, take, drop}
use Rattle.statechart_tree.specs.Views.{function_of}
use Rattle.statechart_expressions.specs.Called.{called_behind, called}
use Rattle.statechart_expressions.proofs.calls.function_named.Given as goal

-- what is left of the functions, behind those so far, gives what all give
abbrev pub invariant-loop-index : goal.invariant-loop-index
invariant-loop-index l =
    called_behind (map function_of (take l.index l.functions)) (map function_of (drop l.index l.functions)) l.name
    ≡ called (map function_of l.functions) l.name
