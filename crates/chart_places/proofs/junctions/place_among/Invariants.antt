use Rattle.std.proofs.Common.{◌≡◌, ◌≤◌, map, drop, length, true}
use Rattle.std.specs.List.{AllByRecursion}
use Rattle.chart_places.specs.Placed.{Owned}
use Rattle.chart_places.specs.Survey.{owned_of, is_before}
use Rattle.chart_places.proofs.junctions.place_among.Given as goal

-- the junction is before all from here on
abbrev pub invariant-loop-at : goal.invariant-loop-at
invariant-loop-at l = record {
  within : l.at ≤ length l.all;
  later : AllByRecursion (λ (x : Owned). is_before (owned_of l.new) x ≡ true) (drop l.at (map owned_of l.all));
}

abbrev pub decreases-loop-at : goal.decreases-loop-at
decreases-loop-at l = l.at
