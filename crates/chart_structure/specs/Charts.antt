-- The net of a checked chart, which has no places.
use Rattle.std.specs.Prelude.{◌||◌, ℕ, List, Bool, Option, Some, None, map, if◌then◌else◌}
use Rattle.std.specs.List.{range_with_len}
use Rattle.std.specs.Option.{is_some}
use Rattle.active_config.specs.Tree.{state_count, comp_of}
use Rattle.checked_chart.specs.Chart.{Chart, Trans, node}
use Rattle.chart_structure.specs.declared.net.Arrow.{Arrow}
use Rattle.chart_structure.specs.Net.{Node, JunctionNode, Net, nowhere}

-- a transition is open where it has an event or a guard
abbrev pub arrow_of_trans : Trans → Arrow
arrow_of_trans t = record {
  at = nowhere;
  «open» = is_some t.event || is_some t.guard;
  to = t.dest;
  to_at = nowhere;
}

-- state s of a chart: its composition stands for the word
abbrev pub node_of_state : Chart → ℕ → Node
node_of_state c s = record {
  name = nowhere;
  word = comp_of c.tree s;
  history = if (node c s).history then Some nowhere else None;
  outer = map arrow_of_trans (node c s).outer;
  inner = map arrow_of_trans (node c s).inner;
  default = map arrow_of_trans (node c s).default;
}

-- the list of a junction
abbrev pub node_of_junction : List Trans → JunctionNode
node_of_junction list = record { name = nowhere; list = map arrow_of_trans list }

-- the net of a chart
abbrev pub net_of_chart : Chart → Net
net_of_chart c = record {
  tree = c.tree;
  nodes = map (node_of_state c) (range_with_len 0 (state_count c.tree));
  junctions = map node_of_junction c.junctions;
}
