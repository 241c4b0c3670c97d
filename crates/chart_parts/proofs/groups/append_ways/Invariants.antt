use Rattle.std.proofs.Common.{◌≡◌, ◌-◌, ◌++◌}
use Rattle.flow_base.specs.Lists.{items_of}
use Rattle.chart_code.specs.Orders.{span}
use Rattle.chart_parts.specs.declared.part.Part.TheVariants.{Way}
use Rattle.chart_parts.proofs.groups.append_ways.Given as goal

-- what is appended and what is left are what was there and the parts for all the states
abbrev pub invariant-loop-dest : goal.invariant-loop-dest
invariant-loop-dest l =
    items_of l.out ++ span (Way l.toward l.state) l.dest (l.end - l.dest)
    ≡ items_of l.initial.out ++ span (Way l.toward l.state) l.first (l.end - l.first)
