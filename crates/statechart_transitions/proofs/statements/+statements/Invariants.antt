use Rattle.std.proofs.Common.{◌≡◌, ◌+◌, ◌*◌, ◌++◌, length, map, drop}
use Rattle.chart_tree.specs.Views as core
use Rattle.statechart_tree.specs.Views.{stmt_of}
use Rattle.statechart_meaning.specs.Statements.{expand_block}
use Rattle.statechart_names.specs.Seen.{scope_seen}
use Rattle.statechart_transitions.proofs.statements.+statements.Given as goal

-- fewer functions may be called in one that is called

abbrev pub decreases-push_stmt : goal.decreases-push_stmt
decreases-push_stmt l = 3 * length l.scope.now.functions.now + 1

abbrev pub decreases-push_call : goal.decreases-push_call
decreases-push_call l = 3 * length l.scope.now.functions.now

abbrev pub decreases-push_block : goal.decreases-push_block
decreases-push_block l = 3 * length l.scope.now.functions.now + 2

-- the statements so far, and those that are left, are all
abbrev pub invariant-push_block-loop-stmt : goal.invariant-push_block-loop-stmt
invariant-push_block-loop-stmt l =
    map core.stmt_of l.into.items ++ expand_block (scope_seen l.scope) (map stmt_of (drop l.stmt-index l.stmts))
    ≡ map core.stmt_of l.fn.into.items ++ expand_block (scope_seen l.scope) (map stmt_of l.stmts)
