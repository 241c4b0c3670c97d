use Rattle.std.proofs.Common.{map, take}
use Rattle.chart_tree.specs.Views.{var_of}
use Rattle.chart_scope.specs.Resolution.{AreVarsOf}
use Rattle.chart_scope.proofs.declarations.vars.Given as goal

-- the data so far are declared
abbrev pub invariant-loop-text : goal.invariant-loop-text
invariant-loop-text l = AreVarsOf (map var_of (take l.text-index l.texts)) l.vars.items
