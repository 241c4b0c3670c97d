use Rattle.std.proofs.Common.{◌≡◌, List, map, ap, ◌∙◌, sym}
use Rattle.std.proofs.lemmas.Result.{IfOk-equal}
use Rattle.flow_base.specs.Lists.{items_of}
use Rattle.statechart_tree.specs.declared.expr.SourceExpr.{SourceExpr}
use Rattle.statechart_tree.specs.Trees.{Expr, Call}
use Rattle.statechart_tree.specs.Views.{expr_of, row_of}
use Rattle.statechart_meaning.specs.Counting.{counted_in, counted_row}
use Rattle.statechart_expressions.proofs.Sizes.{call-seen}
use Rattle.statechart_counters.specs.Seen.{counted_seen, gathered}
use Rattle.statechart_counters.proofs.expressions.+expressions.Goals as goal

-- a call counts what its arguments count
pub add_expr-returns-in-Call : goal.add_expr-returns-in-Call
add_expr-returns-in-Call t c =
    let es = c.args.events.now in
    let old = map counted_seen c.args.counted.now.items in
    let seen : expr_of c.args.e.now ≡ Call c.in-Call.field-0 (row_of (map expr_of (items_of c.in-Call.arguments))) =
    ap expr_of c.in-Call.is ∙ call-seen c.in-Call.field-0 c.in-Call.arguments in
    let same : gathered old (counted_row es (row_of (map expr_of c.items.result.now)))
    ≡ gathered old (counted_in es (expr_of c.args.e.now)) =
    ap (λ (l : List SourceExpr). gathered old (counted_row es (row_of (map expr_of l)))) c.items.ensures
    ∙ ap (λ (e : Expr). gathered old (counted_in es e)) (sym seen) in
    IfOk-equal c.add_row.result (map counted_seen c.add_row.new.counted.items)
    (gathered old (counted_row es (row_of (map expr_of c.items.result.now))))
    (gathered old (counted_in es (expr_of c.args.e.now))) c.add_row.ensures same
