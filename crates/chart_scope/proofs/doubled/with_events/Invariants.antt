use Rattle.std.proofs.Common.{◌≡◌, map, drop}
use Rattle.chart_tree.specs.declared.chart.EventText.{EventText}
use Rattle.resolved_tree.specs.Faults.{first_with}
use Rattle.chart_scope.specs.Names.{doubled_events}
use Rattle.chart_scope.proofs.doubled.with_events.Given as goal

-- the faults of those to come are left
abbrev pub invariant-loop-number : goal.invariant-loop-number
invariant-loop-number l =
    first_with l.found (doubled_events l.scopes l.number (map (λ (x : EventText). x.name) (drop l.number l.events)))
    ≡ first_with l.fn.found (doubled_events l.scopes 0 (map (λ (x : EventText). x.name) l.events))
