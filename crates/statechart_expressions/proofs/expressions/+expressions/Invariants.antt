use Rattle.std.proofs.Common.{◌≡◌, ◌+◌, ◌++◌, suc, map, drop}
use Rattle.chart_tree.specs.Views as core
use Rattle.statechart_tree.specs.Views.{expr_of, row_of, function_of}
use Rattle.statechart_meaning.specs.Expressions.{expand_exprs}
use Rattle.statechart_names.specs.Seen.{scope_seen}
use Rattle.statechart_expressions.proofs.Sizes.{expr_size, row_size, weight}
use Rattle.statechart_expressions.proofs.expressions.+expressions.Given as goal

-- the functions that may be called, and what is to be expanded, become smaller together

abbrev pub decreases-expand_count : goal.decreases-expand_count
decreases-expand_count l = weight (map function_of l.scope.now.functions.now) + suc (expr_size (expr_of l.e.now))

abbrev pub decreases-expand_expr : goal.decreases-expand_expr
decreases-expand_expr l = weight (map function_of l.scope.now.functions.now) + expr_size (expr_of l.e.now)

abbrev pub decreases-expand_all : goal.decreases-expand_all
decreases-expand_all l = weight (map function_of l.scope.now.functions.now) + row_size (row_of (map expr_of l.es.now))

abbrev pub decreases-call_value : goal.decreases-call_value
decreases-call_value l = weight (map function_of l.scope.now.functions.now)

-- the expressions so far, and those that are left, are all
abbrev pub invariant-expand_all-loop-e : goal.invariant-expand_all-loop-e
invariant-expand_all-loop-e l =
    map core.expr_of l.all.items ++ expand_exprs (scope_seen l.scope) (row_of (map expr_of (drop l.e-index l.es)))
    ≡ expand_exprs (scope_seen l.scope) (row_of (map expr_of l.es))
