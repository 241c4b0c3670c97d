use Rattle.c_decided.specs.Views.{plan_of}
use Rattle.c_decided.proofs.Whole.{AreMadeFrom}
use Rattle.c_decided.proofs.file.decided_functions.Given as goal

-- so many functions are made as were taken, each with its number
abbrev pub invariant-loop-function : goal.invariant-loop-function
invariant-loop-function l = AreMadeFrom (plan_of l.plan) 0 l.yielded l.made.items
