use Rattle.std.proofs.Common.{◌≡◌, map, drop}
use Rattle.chart_tree.specs.Views.{junction_of}
use Rattle.chart_places.specs.Placed.{owned_by, in_text_order}
use Rattle.chart_places.specs.Survey.{owned_of, IsInOrder}
use Rattle.chart_places.proofs.junctions.place_junctions.Given as goal

-- those that are left make of those so far what all make of the first ones
abbrev pub invariant-loop-junction : goal.invariant-loop-junction
invariant-loop-junction l = record {
  same : in_text_order (map owned_of l.all.items)
      (owned_by l.owner (map junction_of (drop l.junction-index l.junctions)))
      ≡ in_text_order (map owned_of l.fn.all.items) (owned_by l.owner (map junction_of l.junctions));
  order : IsInOrder (map owned_of l.all.items);
}
