use Rattle.std.proofs.Common.{◌≡◌, ◌≤◌, ◌<◌, ◌+◌, ◌*◌, ◌++◌, suc, length, List, [], map, Some, None, ap, sym, ◌∙◌, arith}
use Rattle.std.proofs.lemmas.List.{append-nil, length-map}
use Rattle.flow_base.specs.Lists.{items_of}
use Rattle.chart_tree.specs.Trees as trees
use Rattle.chart_tree.specs.Views as core
use Rattle.statechart_tree.specs.declared.stmt.SourceStmt.{SourceStmt}
use Rattle.statechart_tree.specs.declared.declarations.Function as code
use Rattle.statechart_tree.specs.Views.{expr_of, stmt_of, body_of, block_of, function_of}
use Rattle.statechart_meaning.specs.Scope.{Scope}
use Rattle.statechart_meaning.specs.Functions.{calls_of}
use Rattle.statechart_meaning.specs.Statements.{expand_block}
use Rattle.statechart_scope.specs.Frames.{frames_of}
use Rattle.statechart_names.specs.Seen.{declared_seen, scope_seen}
use Rattle.statechart_expressions.specs.Called.{called, called_seen}
use Rattle.statechart_expressions.proofs.CallLemmas.{block-none, block-value, block-block}
use Rattle.statechart_expressions.proofs.Sizes.{called-is_shorter}
use Rattle.statechart_transitions.proofs.statements.+statements.Goals as goal

pub push_call-push_block-requires : goal.push_call-push_block-requires
push_call-push_block-requires t c =
    let fs = map function_of c.args.scope.now.functions.now in
    let found : called fs c.args.name.now.text ≡ Some (called_seen c.in-Some.called) =
    sym (c.in-Some.ensures ∙ ap (called fs) c.text.ensures) in
    let short : suc (length (map function_of c.in-Some.called.above.now)) ≤ length fs =
    called-is_shorter fs c.args.name.now.text (called_seen c.in-Some.called) found in
    let same : length c.inside.result.functions.now ≡ length c.in-Some.called.above.now =
    ap (λ (l : List code.Function). length l) c.inside.ensures.functions in
    let less : 3 * length c.inside.result.functions.now + 2 < t =
    omega (
      arith,
      same,
      short,
      length-map c.in-Some.called.above.now function_of,
      length-map c.args.scope.now.functions.now function_of,
      c.decreases,
    ) in
    (less, tt)

pub push_call-returns-in-None : goal.push_call-returns-in-None
push_call-returns-in-None t c =
    let fs = map function_of c.args.scope.now.functions.now in
    let found : called fs c.args.name.now.text ≡ None = sym (c.in-None.ensures ∙ ap (called fs) c.text.ensures) in
    let old = map core.stmt_of c.args.into.now.items in
    sym (ap (λ (l : List trees.Stmt). old ++ l) (block-none (frames_of c.args.scope.now.root.now)
    (declared_seen c.args.scope.now.declared) fs c.args.name.now (map core.expr_of c.args.arguments.now) found)
    ∙ append-nil old)

pub push_call-returns-in-Value : goal.push_call-returns-in-Value
push_call-returns-in-Value t c =
    let fs = map function_of c.args.scope.now.functions.now in
    let found : called fs c.args.name.now.text ≡ Some (called_seen c.in-Some.called) =
    sym (c.in-Some.ensures ∙ ap (called fs) c.text.ensures) in
    let old = map core.stmt_of c.args.into.now.items in
    sym (ap (λ (l : List trees.Stmt). old ++ l) (block-value (frames_of c.args.scope.now.root.now)
    (declared_seen c.args.scope.now.declared) fs c.args.name.now (map core.expr_of c.args.arguments.now)
    (called_seen c.in-Some.called) (expr_of c.in-Value.field-0) found (ap body_of c.in-Value.is))
    ∙ append-nil old)

pub push_call-returns-in_ok-push_block-in-Block : goal.push_call-returns-in_ok-push_block-in-Block
push_call-returns-in_ok-push_block-in-Block t c =
    let fs = map function_of c.args.scope.now.functions.now in
    let found : called fs c.args.name.now.text ≡ Some (called_seen c.in-Some.called) =
    sym (c.in-Some.ensures ∙ ap (called fs) c.text.ensures) in
    let old = map core.stmt_of c.args.into.now.items in
    let stmts = block_of (items_of c.in-Block.stmts) in
    c.in_ok-push_block-in-Block.ensures
    ∙ ap (λ (l : List trees.Stmt). old ++ l)
    (ap (λ (l : List SourceStmt). expand_block (scope_seen c.inside.result) (map stmt_of l)) c.items.ensures
    ∙ ap (λ (s : Scope). expand_block s stmts) c.inside.ensures.scope
    ∙ sym (block-block (frames_of c.args.scope.now.root.now) (declared_seen c.args.scope.now.declared) fs c.args.name.now
    (map core.expr_of c.args.arguments.now) (called_seen c.in-Some.called) stmts found (ap body_of c.in-Block.is)))
