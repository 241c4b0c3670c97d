use Rattle.std.proofs.Common.{◌≡◌, map, take, drop}
use Rattle.chart_tree.specs.Views as texts
use Rattle.resolved_tree.specs.Faults.{first_with}
use Rattle.resolved_tree.specs.Views as views
use Rattle.chart_scope.specs.Uses.{resolved_trans, list_faults}
use Rattle.chart_scope.proofs.transitions.list.Given as goal

-- the transitions so far are built, and the faults of those to come are left
abbrev pub invariant-loop-text : goal.invariant-loop-text
invariant-loop-text l = record {
  built : views.list_of l.built.items
      ≡ map (resolved_trans l.scopes l.state) (map texts.trans_of (take l.text-index l.list));
  kept : first_with l.found (list_faults l.scopes l.state (map texts.trans_of (drop l.text-index l.list)))
      ≡ first_with l.fn.found (list_faults l.scopes l.state (map texts.trans_of l.list));
}
