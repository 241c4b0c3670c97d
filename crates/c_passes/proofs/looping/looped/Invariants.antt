use Rattle.c_passes.specs.Passed.{looped_below}
use Rattle.c_passes.proofs.FunctionLemmas.{AreTurnedSoFar}
use Rattle.c_passes.proofs.looping.looped.Given as goal

-- so many functions are made as were taken, each of them a loop where it is one of the first so many and may be one
abbrev pub invariant-loop-function : goal.invariant-loop-function
invariant-loop-function l = AreTurnedSoFar (looped_below l.procs) l.yielded l.made.items
