-- The net of a resolved chart: the tree of its states, and where its transitions lead.
use Rattle.std.specs.Prelude.{◌||◌, map}
use Rattle.std.specs.Option.{is_some}
use Rattle.token_grammar.specs.declared.token.Span.{Span}
use Rattle.chart_structure.specs.declared.net.Arrow.{Arrow}
use Rattle.chart_structure.specs.Net.{Node, JunctionNode, Net}
use Rattle.resolved_tree.specs.declared.resolved.ResolvedDest.{ResolvedDest}
use Rattle.resolved_tree.specs.declared.resolved.ResolvedDest.TheVariants as to
use Rattle.resolved_tree.specs.Resolved.{Trans, Junction, State, Resolved}
use Rattle.resolved_tree.specs.Plain.{plain_dest}

-- the place of a destination
abbrev pub dest_place : ResolvedDest → Span
dest_place (to.State r) = r.at
dest_place (to.Junction r) = r.at

-- what a net has of a transition
abbrev pub arrow_of : Trans → Arrow
arrow_of t = record {
  at = t.at;
  «open» = is_some t.event || is_some t.guard;
  to = plain_dest t.dest;
  to_at = dest_place t.dest;
}

-- what a net has of a state
abbrev pub node_of : State → Node
node_of s = record {
  name = s.at;
  word = s.word;
  history = s.history;
  outer = map arrow_of s.outer;
  inner = map arrow_of s.inner;
  default = map arrow_of s.default;
}

-- what a net has of a junction
abbrev pub junction_node_of : Junction → JunctionNode
junction_node_of j = record { name = j.at; list = map arrow_of j.list }

-- the net of a resolved chart
unfoldable pub net_of : Resolved → Net
net_of r = record { tree = r.tree; nodes = map node_of r.states; junctions = map junction_node_of r.junctions }
