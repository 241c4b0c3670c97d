use Rattle.std.proofs.Common.{◌≡◌, map, take}
use Rattle.actions.specs.Trees as seen
use Rattle.resolved_tree.specs.Plain as plain
use Rattle.resolved_tree.specs.Views.{stmt_of}
use Rattle.chart_check.proofs.expressions.plain_block.Given as goal

-- the statements so far are made
abbrev pub invariant-loop-stmt : goal.invariant-loop-stmt
invariant-loop-stmt l =
    map seen.stmt_of l.made.items ≡ map (λ x. plain.plain_stmt (stmt_of x)) (take l.stmt-index l.stmt-items)
