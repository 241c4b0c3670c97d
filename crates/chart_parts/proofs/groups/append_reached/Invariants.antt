use Rattle.std.proofs.Common.{◌≡◌, ◌++◌, drop, map}
use Rattle.flow_base.specs.Lists.{items_of}
use Rattle.chart_parts.specs.declared.part.Part.TheVariants.{Junction}
use Rattle.chart_parts.proofs.groups.append_reached.Given as goal

-- what is appended and what is left are what was there and the parts of all the junctions
abbrev pub invariant-loop-junction : goal.invariant-loop-junction
invariant-loop-junction l =
    items_of l.out ++ map (λ j. Junction l.state l.kind j) (drop l.junction-index l.junctions)
    ≡ items_of l.initial.out ++ map (λ j. Junction l.state l.kind j) l.junctions
