use Rattle.std.proofs.Common.{◌≡◌, [], map, drop}
use Rattle.chart_places.specs.Placed.{owned_from, in_text_order}
use Rattle.chart_places.specs.Survey.{placed_of, owned_of, IsInOrder}
use Rattle.chart_places.proofs.junctions.collect.Given as goal

-- the junctions of the states that are left make of those so far what all make
abbrev pub invariant-loop-i : goal.invariant-loop-i
invariant-loop-i l = record {
  same : in_text_order (map owned_of l.all.items) (owned_from l.i (map placed_of (drop l.i l.states)))
      ≡ in_text_order [] (owned_from 0 (map placed_of l.states));
  order : IsInOrder (map owned_of l.all.items);
}
