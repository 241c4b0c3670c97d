use Rattle.c_passes.proofs.FunctionLemmas.{AreTurnedSoFar}
use Rattle.c_pruned.specs.Pruned.{pruned_of}
use Rattle.c_passes.proofs.tidying.pruned.Given as goal

-- so many functions are made as were taken, each of them by itself
abbrev pub invariant-loop-function : goal.invariant-loop-function
invariant-loop-function l = AreTurnedSoFar (λ i g. pruned_of g) l.yielded l.made.items
