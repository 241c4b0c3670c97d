use Rattle.std.proofs.Common.{◌≡◌, ◌<◌, ◌∷◌, ℕ, Some}
use Rattle.active_config.specs.Tree.{ancestors, state_count}
use Rattle.checked_chart.proofs.Walks.{and_above, behind}
use Rattle.chart_places.specs.Tables.{declared_in}
use Rattle.chart_places.proofs.scopes.nearest.Given as goal

-- what is found from here on is what is found from the first state on
abbrev pub invariant-loop-next : goal.invariant-loop-next
invariant-loop-next l = record {
  within : (a : ℕ) → l.next ≡ Some a → a < state_count l.shape;
  same : declared_in l.names l.text (and_above l.shape l.next)
      ≡ declared_in l.names l.text (l.state ∷ ancestors l.shape l.state);
}

abbrev pub decreases-loop-next : goal.decreases-loop-next
decreases-loop-next l = behind l.next
