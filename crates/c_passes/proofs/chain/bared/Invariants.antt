use Rattle.c_bare.specs.Bare.{bared}
use Rattle.c_passes.proofs.FunctionLemmas.{AreTurnedSoFar}
use Rattle.c_passes.proofs.chain.bared.Given as goal

-- so many functions are made as were taken, each of them as it is in the file with bare functions
abbrev pub invariant-loop-function : goal.invariant-loop-function
invariant-loop-function l = AreTurnedSoFar (bared l.flags) l.yielded l.made.items
