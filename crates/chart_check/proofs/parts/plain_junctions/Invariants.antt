use Rattle.std.proofs.Common.{◌≡◌, map, take}
use Rattle.flow_base.specs.Lists.{items_of}
use Rattle.resolved_tree.specs.Plain as plain
use Rattle.resolved_tree.specs.Views.{list_of}
use Rattle.checked_chart.specs.Views.{list_seen}
use Rattle.chart_check.proofs.parts.plain_junctions.Given as goal

-- the lists of the junctions so far are made
abbrev pub invariant-loop-junction : goal.invariant-loop-junction
invariant-loop-junction l =
    map (λ j. list_seen j.items) l.made.items
    ≡ map (λ x. plain.plain_list (list_of (items_of x.list))) (take l.junction-index l.junctions)
