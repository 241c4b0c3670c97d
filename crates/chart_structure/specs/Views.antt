-- The parts of the code as definitions see them.
use Rattle.std.specs.Prelude.{List, map}
use Rattle.active_config.specs.Tree.{Tree}
use Rattle.chart_structure.specs.declared.net.Node as code_node
use Rattle.chart_structure.specs.declared.net.JunctionNode as code_junction
use Rattle.chart_structure.specs.Net.{Node, JunctionNode, Net}

-- a state of the code
abbrev pub node_of : code_node.Node → Node
node_of n = record {
  name = n.name;
  word = n.word;
  history = n.history;
  outer = n.outer.items;
  inner = n.inner.items;
  default = n.default.items;
}

-- a junction of the code
abbrev pub junction_of : code_junction.JunctionNode → JunctionNode
junction_of p = record { name = p.name; list = p.list.items }

-- the net of a tree, its nodes and its junctions
unfoldable pub net_of : Tree → List code_node.Node → List code_junction.JunctionNode → Net
net_of t nodes junctions = record { tree = t; nodes = map node_of nodes; junctions = map junction_of junctions }
