use Rattle.std.proofs.Common.{◌≡◌, ◌≤◌, ◌<◌, ◌+◌, suc, List, map, Some, None, get_or, ap, sym, ◌∙◌, arith}
use Rattle.flow_base.specs.Lists.{items_of}
use Rattle.chart_tree.specs.Trees as trees
use Rattle.chart_tree.specs.Views as core
use Rattle.statechart_tree.specs.Views.{expr_of, row_of, body_of, block_of, function_of}
use Rattle.statechart_tree.specs.declared.expr.SourceExpr.{SourceExpr}
use Rattle.statechart_tree.specs.declared.declarations.Function as code
use Rattle.statechart_tree.specs.Trees.{Call}
use Rattle.statechart_meaning.specs.Expressions.{expand_expr, expand_exprs}
use Rattle.statechart_meaning.specs.Scope.{Scope}
use Rattle.statechart_scope.specs.Frames.{frames_of}
use Rattle.statechart_names.specs.Seen.{declared_seen, scope_seen}
use Rattle.statechart_expressions.specs.Called.{called, called_seen}
use Rattle.statechart_expressions.proofs.CallLemmas.{value-none, value-block, value-value}
use Rattle.statechart_expressions.proofs.Sizes.{expr_size, row_size, weight, row-at, value-smaller, call-seen}
use Rattle.statechart_expressions.proofs.expressions.+expressions.Goals as goal

-- ---- calls

pub call_value-expand_expr-requires : goal.call_value-expand_expr-requires
call_value-expand_expr-requires t c =
    let fs = map function_of c.args.scope.now.functions.now in
    let found : called fs c.args.name.now.text ≡ Some (called_seen c.in-Some.called) =
    sym (c.in-Some.ensures ∙ ap (called fs) c.text.ensures) in
    let small : suc (weight (map function_of c.in-Some.called.above.now) + expr_size (expr_of c.in-Value.e)) ≤ weight fs =
    value-smaller fs c.args.name.now.text (called_seen c.in-Some.called) (expr_of c.in-Value.e) found
    (ap body_of c.in-Value.is) in
    let same : weight (map function_of c.inside.result.functions.now)
    ≡ weight (map function_of c.in-Some.called.above.now) =
    ap (λ (l : List code.Function). weight (map function_of l)) c.inside.ensures.functions in
    let less : weight (map function_of c.inside.result.functions.now) + expr_size (expr_of c.in-Value.e) < t =
    omega (arith, same, small, c.decreases) in
    (less, tt)

pub call_value-returns-in_ok-copy_name-in-None : goal.call_value-returns-in_ok-copy_name-in-None
call_value-returns-in_ok-copy_name-in-None t c =
    let fs = map function_of c.args.scope.now.functions.now in
    let found : called fs c.args.name.now.text ≡ None = sym (c.in-None.ensures ∙ ap (called fs) c.text.ensures) in
    ap trees.Name c.in_ok-copy_name-in-None.ensures
    ∙ sym (value-none (frames_of c.args.scope.now.root.now) (declared_seen c.args.scope.now.declared) fs c.args.name.now
    (map core.expr_of c.args.arguments.now) found)

pub call_value-returns-in_ok-copy_name-in-Block : goal.call_value-returns-in_ok-copy_name-in-Block
call_value-returns-in_ok-copy_name-in-Block t c =
    let fs = map function_of c.args.scope.now.functions.now in
    let found : called fs c.args.name.now.text ≡ Some (called_seen c.in-Some.called) =
    sym (c.in-Some.ensures ∙ ap (called fs) c.text.ensures) in
    ap trees.Name c.in_ok-copy_name-in-Block.ensures
    ∙ sym (value-block (frames_of c.args.scope.now.root.now) (declared_seen c.args.scope.now.declared) fs c.args.name.now
    (map core.expr_of c.args.arguments.now) (called_seen c.in-Some.called) (block_of (items_of c.in-Block.field-0)) found
    (ap body_of c.in-Block.is))

pub call_value-returns-in_ok-value-in-Value : goal.call_value-returns-in_ok-value-in-Value
call_value-returns-in_ok-value-in-Value t c =
    let fs = map function_of c.args.scope.now.functions.now in
    let found : called fs c.args.name.now.text ≡ Some (called_seen c.in-Some.called) =
    sym (c.in-Some.ensures ∙ ap (called fs) c.text.ensures) in
    c.in_ok-value-in-Value.ensures ∙ ap (λ (s : Scope). expand_expr s (expr_of c.in-Value.e)) c.inside.ensures.scope
    ∙ sym (value-value (frames_of c.args.scope.now.root.now) (declared_seen c.args.scope.now.declared) fs c.args.name.now
    (map core.expr_of c.args.arguments.now) (called_seen c.in-Some.called) (expr_of c.in-Value.e) found
    (ap body_of c.in-Value.is))

-- ---- one expression of some

pub expand_all-expand_expr-requires : goal.expand_all-expand_expr-requires
expand_all-expand_expr-requires t c =
    let es = c.args.es.now in
    let at : expr_size (expr_of c.e-item.result) ≡ expr_size (expr_of (get_or es c.loop-e.e-index c.e-item.result)) =
    ap (λ (e : SourceExpr). expr_size (expr_of e)) c.e-item.is in
    let small : suc (expr_size (expr_of (get_or es c.loop-e.e-index c.e-item.result))) ≤ row_size (row_of (map expr_of es)) =
    row-at es c.loop-e.e-index c.e-item.result (omega arith) in
    let less : weight (map function_of c.args.scope.now.functions.now) + expr_size (expr_of c.e-item.result) < t =
    omega (arith, at, small, c.decreases) in
    (less, tt)

-- ---- a call in an expression

pub expand_expr-expand_all-requires : goal.expand_expr-expand_all-requires
expand_expr-expand_all-requires t c =
    let seen : expr_of c.args.e.now ≡ Call c.in-Call.name (row_of (map expr_of (items_of c.in-Call.arguments))) =
    ap expr_of c.in-Call.is ∙ call-seen c.in-Call.name c.in-Call.arguments in
    let size : expr_size (expr_of c.args.e.now) ≡ suc (row_size (row_of (map expr_of c.items-in-Call.result.now))) =
    ap expr_size seen
    ∙ ap (λ (l : List SourceExpr). suc (row_size (row_of (map expr_of l)))) (sym c.items-in-Call.ensures) in
    let less : weight (map function_of c.args.scope.now.functions.now)
    + row_size (row_of (map expr_of c.items-in-Call.result.now))
    < t =
    omega (arith, size, c.decreases) in
    (less, tt)

pub expand_expr-returns-in_ok-value-in-Call : goal.expand_expr-returns-in_ok-value-in-Call
expand_expr-returns-in_ok-value-in-Call t c =
    let s = scope_seen c.args.scope.now in
    let seen : expr_of c.args.e.now ≡ Call c.in-Call.name (row_of (map expr_of (items_of c.in-Call.arguments))) =
    ap expr_of c.in-Call.is ∙ call-seen c.in-Call.name c.in-Call.arguments in
    let given : map core.expr_of c.deref-in-Call.result.now
    ≡ expand_exprs s (row_of (map expr_of (items_of c.in-Call.arguments))) =
    ap (map core.expr_of) c.deref-in-Call.ensures.value ∙ c.in_ok-arguments-in-Call.ensures
    ∙ ap (λ (l : List SourceExpr). expand_exprs s (row_of (map expr_of l))) c.items-in-Call.ensures in
    c.in_ok-value-in-Call.ensures ∙ ap (λ (l : List trees.Expr). s.calls.value c.in-Call.name l) given
    ∙ sym (ap (expand_expr s) seen)
