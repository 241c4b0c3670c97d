use Rattle.std.proofs.Common.{◌≡◌, ◌++◌, drop}
use Rattle.flow_base.specs.Lists.{items_of}
use Rattle.checked_chart.specs.Views.{list_seen}
use Rattle.chart_parts.specs.Parts.{list_parts}
use Rattle.chart_parts.proofs.transitions.append_transitions.Given as goal

-- what is appended and what is left are what was there and the parts of all the transitions
abbrev pub invariant-loop-place : goal.invariant-loop-place
invariant-loop-place l =
    items_of l.out ++ list_parts l.owner l.place (list_seen (drop l.place l.list))
    ≡ items_of l.initial.out ++ list_parts l.owner 0 (list_seen l.list)
