use Rattle.std.proofs.Common.{◌≡◌, map, take, drop}
use Rattle.chart_tree.specs.Views as texts
use Rattle.resolved_tree.specs.Faults.{first_with}
use Rattle.resolved_tree.specs.Views as views
use Rattle.chart_scope.specs.Uses.{resolved_stmt, block_faults}
use Rattle.chart_scope.proofs.statements.block.Given as goal

-- the statements so far are built, and the faults of those to come are left
abbrev pub invariant-loop-text : goal.invariant-loop-text
invariant-loop-text l = record {
  built : views.block_of l.built.items
      ≡ map (resolved_stmt l.scopes l.state) (texts.block_of (take l.text-index l.stmts));
  kept : first_with l.found (block_faults l.scopes l.state (texts.block_of (drop l.text-index l.stmts)))
      ≡ first_with l.fn.found (block_faults l.scopes l.state (texts.block_of l.stmts));
}
