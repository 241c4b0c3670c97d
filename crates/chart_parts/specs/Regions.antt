-- The parts that are appended together.
use Rattle.std.specs.Prelude.{ℕ, List, ◌∷◌, ◌++◌}
use Rattle.active_config.specs.Tree.{state_count}
use Rattle.checked_chart.specs.Chart.{Chart, junction_count}
use Rattle.chart_code.specs.Orders.{ascending, descending}
use Rattle.chart_parts.specs.declared.part.Part.{Part}
use Rattle.chart_parts.specs.declared.part.Part.TheVariants as parts
use Rattle.chart_parts.specs.declared.regions.Region.{Region}
use Rattle.chart_parts.specs.declared.regions.Region.TheVariants.{Blocks, Transitions, Group, Lists, Process}
use Rattle.chart_parts.specs.Parts.{block_parts, state_parts, junction_parts, group_parts, lists_parts, process_parts}

-- those of one state
abbrev pub region_parts : Chart → Region → ℕ → List Part
region_parts c Blocks = block_parts
region_parts c Transitions = state_parts c
region_parts c Group = group_parts c
region_parts c Lists = lists_parts c
region_parts c Process = process_parts

-- the end mark, the actions, and the parts of all transitions
abbrev pub first_parts : Chart → List Part
first_parts c =
    parts.EndMark ∷ (ascending block_parts (state_count c.tree)
    ++ (ascending (state_parts c) (state_count c.tree) ++ ascending (junction_parts c) (junction_count c)))

-- what firings take, the outer and inner lists, and the processing of all states
abbrev pub last_parts : Chart → List Part
last_parts c =
    descending (group_parts c) (state_count c.tree)
    ++ (descending (lists_parts c) (state_count c.tree) ++ descending process_parts (state_count c.tree))
