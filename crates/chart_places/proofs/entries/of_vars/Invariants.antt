use Rattle.std.proofs.Common.{◌≡◌, map, take}
use Rattle.chart_tree.specs.Views.{var_of}
use Rattle.chart_places.specs.Tables.{declared_of, var_name}
use Rattle.chart_places.proofs.entries.of_vars.Given as goal

-- the names so far
abbrev pub invariant-loop-var : goal.invariant-loop-var
invariant-loop-var l = map declared_of l.names.items ≡ map var_name (map var_of (take l.var-index l.vars))
