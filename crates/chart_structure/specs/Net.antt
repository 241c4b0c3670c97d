-- The net of a chart: the tree of its states, and where its transitions lead.
use Rattle.std.specs.Prelude.{◌≡◌, ◌≢◌, ◌<◌, ℕ, List, [], length, Option, Some, None, slice_get, slice_index_or}
use Rattle.token_grammar.specs.declared.token.Span.{Span}
use Rattle.active_config.specs.declared.comp.Comp.{Comp}
use Rattle.active_config.specs.declared.comp.Comp.TheVariants.{Leaf}
use Rattle.active_config.specs.Tree.{Tree, IsTree, state_count, comp_of, children_of}
use Rattle.checked_chart.specs.declared.parts.Dest.{Dest}
use Rattle.checked_chart.specs.declared.parts.Dest.TheVariants as dests
use Rattle.checked_chart.specs.declared.parts.ListKind.{ListKind}
use Rattle.checked_chart.specs.declared.parts.ListKind.TheVariants.{Outer, Inner, Default}
use Rattle.chart_structure.specs.declared.net.Arrow.{Arrow}

-- a state: the place of its name, its composition word (Leaf where it has neither a word nor children), the
-- place of the word `history` if it stands there, and its lists
pub record Node : Type 0 where
  pub name : Span
  pub word : Comp
  pub history : Option Span
  pub outer : List Arrow
  pub inner : List Arrow
  pub default : List Arrow

-- a junction: the place of its name, and its list
pub record JunctionNode : Type 0 where
  pub name : Span
  pub list : List Arrow

-- a tree, a node for each of its states, and the junctions
pub record Net : Type 0 where
  pub tree : Tree
  pub nodes : List Node
  pub junctions : List JunctionNode

-- ---- look-ups

-- the place of what stands in no text
abbrev pub nowhere : Span
nowhere = record { line = 0; column = 0 }

-- a leaf without lists
abbrev pub no_node : Node
no_node = record { name = nowhere; word = Leaf; history = None; outer = []; inner = []; default = [] }

-- a junction without transitions
abbrev pub no_junction : JunctionNode
no_junction = record { name = nowhere; list = [] }

-- the composition word of a state
unfoldable pub word_of : Net → ℕ → Comp
word_of n s = (slice_index_or n.nodes s no_node).word

-- the place of a state's name
unfoldable pub name_of : Net → ℕ → Span
name_of n s = (slice_index_or n.nodes s no_node).name

-- the place of a state's word `history`, if it stands there
unfoldable pub history_of : Net → ℕ → Option Span
history_of n s = (slice_index_or n.nodes s no_node).history

-- a list of a node
abbrev pub node_list : Node → ListKind → List Arrow
node_list n Outer = n.outer
node_list n Inner = n.inner
node_list n Default = n.default

-- a list of a state
unfoldable pub list_of : Net → ℕ → ListKind → List Arrow
list_of n s kind = node_list (slice_index_or n.nodes s no_node) kind

-- how many junctions there are
unfoldable pub junction_count : Net → ℕ
junction_count n = length n.junctions

-- the list of a junction
unfoldable pub junction_list : Net → ℕ → List Arrow
junction_list n j = (slice_index_or n.junctions j no_junction).list

-- the place of a junction's name
unfoldable pub junction_name : Net → ℕ → Span
junction_name n j = (slice_index_or n.junctions j no_junction).name

-- ---- what every net is

-- a is in the list
abbrev pub Has : List Arrow → Arrow → Type 0
Has list a = (i : ℕ) × (slice_get list i ≡ Some a)

-- a destination is a junction, or a state below the root
abbrev pub IsDest : Net → Dest → Type 0
IsDest n (dests.State d) = (0 < d) × (d < state_count n.tree)
IsDest n (dests.Junction j) = j < junction_count n

-- there is a node for each state, all destinations are there, the root has no outer transitions, and a state with
-- children has its composition for its word
pub record IsNet (n : Net) : Type 0 where
  pub tree : IsTree n.tree
  pub nodes : length n.nodes ≡ state_count n.tree
  pub lists : (s : ℕ) (kind : ListKind) (a : Arrow) → Has (list_of n s kind) a → IsDest n a.to
  pub junctions : (j : ℕ) (a : Arrow) → Has (junction_list n j) a → IsDest n a.to
  pub root : list_of n 0 Outer ≡ []
  pub words : (s : ℕ) → s < state_count n.tree → children_of n.tree s ≢ [] → word_of n s ≡ comp_of n.tree s
