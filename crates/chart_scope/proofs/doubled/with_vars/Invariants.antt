use Rattle.std.proofs.Common.{◌≡◌, map, drop}
use Rattle.chart_tree.specs.Trees.{Var}
use Rattle.chart_tree.specs.Views.{var_of}
use Rattle.resolved_tree.specs.Faults.{first_with}
use Rattle.chart_scope.specs.Names.{doubled_vars}
use Rattle.chart_scope.proofs.doubled.with_vars.Given as goal

-- the faults of those to come are left
abbrev pub invariant-loop-number : goal.invariant-loop-number
invariant-loop-number l =
    first_with l.found (doubled_vars l.scopes l.number (map (λ (v : Var). v.name) (map var_of (drop l.number l.vars))))
    ≡ first_with l.fn.found (doubled_vars l.scopes 0 (map (λ (v : Var). v.name) (map var_of l.vars)))
