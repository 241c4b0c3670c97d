use Rattle.std.proofs.Common.{◌≡◌, drop}
use Rattle.flow_base.specs.Lists.{items_of}
use Rattle.checked_chart.specs.Views.{list_seen}
use Rattle.chart_code.specs.ReachedJunctions.{meet, junctions_to}
use Rattle.list_compile.proofs.reached.meet_all.Given as goal

-- what is met, with what the rest leads to, is what was there with what the whole list leads to
abbrev pub invariant-loop-trans : goal.invariant-loop-trans
invariant-loop-trans l =
    meet (items_of l.found) (junctions_to (list_seen (drop l.trans-index l.list)))
    ≡ meet (items_of l.initial.found) (junctions_to (list_seen l.list))
