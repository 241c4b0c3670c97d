use Rattle.std.proofs.Common.{◌≡◌, ◌++◌, map, drop}
use Rattle.chart_places.specs.Survey.{placed_of}
use Rattle.resolved_tree.specs.Faults.{first_with}
use Rattle.resolved_tree.specs.Views as views
use Rattle.chart_scope.specs.Names.{used_in_states}
use Rattle.chart_scope.specs.Resolution.{resolved_states}
use Rattle.chart_scope.proofs.states.states.Given as goal

-- the states so far and those to come are all, and the faults of those to come are left
abbrev pub invariant-loop-number : goal.invariant-loop-number
invariant-loop-number l = record {
  built : map views.state_of l.built.items ++ resolved_states l.scopes l.number (map placed_of (drop l.number l.states))
      ≡ resolved_states l.scopes 0 (map placed_of l.states);
  kept : first_with l.found (used_in_states l.scopes l.number (map placed_of (drop l.number l.states)))
      ≡ first_with l.fn.found (used_in_states l.scopes 0 (map placed_of l.states));
}
