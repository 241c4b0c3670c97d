use Rattle.std.proofs.Common.{◌≡◌, map, take}
use Rattle.chart_tree.specs.Trees as trees
use Rattle.chart_tree.specs.Views.{var_of}
use Rattle.chart_scope.proofs.declarations.inits.Given as goal

-- the first values of the data so far
abbrev pub invariant-loop-text : goal.invariant-loop-text
invariant-loop-text l =
    l.inits.items ≡ map (λ (v : trees.Var). v.init) (map var_of (take l.text-index l.texts))
