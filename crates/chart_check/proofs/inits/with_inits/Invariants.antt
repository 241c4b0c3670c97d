use Rattle.std.proofs.Common.{◌≡◌, take}
use Rattle.resolved_tree.specs.Plain as plain
use Rattle.chart_check.proofs.inits.with_inits.Given as goal

-- the data so far have their first values
abbrev pub invariant-loop-v : goal.invariant-loop-v
invariant-loop-v l = l.made.items ≡ plain.with_inits (take l.v l.vars) (take l.v l.inits)
