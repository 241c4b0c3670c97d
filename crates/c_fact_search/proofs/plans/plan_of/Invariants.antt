use Rattle.c_fact_search.proofs.Made.{AreSoMany}
use Rattle.c_fact_search.proofs.plans.plan_of.Given as goal

-- so many functions are made as were taken
abbrev pub invariant-loop-number : goal.invariant-loop-number
invariant-loop-number l = AreSoMany l.outside l.number l.made.items
