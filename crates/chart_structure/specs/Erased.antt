-- A net without its places.
use Rattle.std.specs.Prelude.{map}
use Rattle.std.specs.Option.{option_map}
use Rattle.chart_structure.specs.declared.net.Arrow.{Arrow}
use Rattle.chart_structure.specs.Net.{Node, JunctionNode, Net, nowhere}

-- a transition without its places
abbrev pub erase : Arrow → Arrow
erase a = record { at = nowhere; «open» = a.«open»; to = a.to; to_at = nowhere }

-- a state without its places
abbrev pub erase_node : Node → Node
erase_node n = record {
  name = nowhere;
  word = n.word;
  history = option_map (λ _. nowhere) n.history;
  outer = map erase n.outer;
  inner = map erase n.inner;
  default = map erase n.default;
}

-- a junction without its places
abbrev pub erase_junction : JunctionNode → JunctionNode
erase_junction p = record { name = nowhere; list = map erase p.list }

-- the net without its places
abbrev pub erased : Net → Net
erased n = record { tree = n.tree; nodes = map erase_node n.nodes; junctions = map erase_junction n.junctions }
