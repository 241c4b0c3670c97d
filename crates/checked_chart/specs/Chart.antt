-- A chart: a tree of states, what it declares, what each state does, and the lists of junctions.
use Rattle.std.specs.Prelude.{◌&&◌, ℕ, List, [], Option, Bool, false, length, slice_index_or, if◌then◌else◌}
use Rattle.std.specs.Option.{option_map_or}
use Rattle.active_config.specs.Tree.{Tree, is_or, comp_of, children_of, parent_of}
use Rattle.actions.specs.Exprs.{Expr, Stmt}
use Rattle.actions.specs.Names.{Names}
use Rattle.actions.specs.World.{Life, On, Bare}
use Rattle.checked_chart.specs.declared.parts.BlockKind.{BlockKind}
use Rattle.checked_chart.specs.declared.parts.BlockKind.TheVariants.{Entry, During, Exit}
use Rattle.checked_chart.specs.declared.parts.Dest.{Dest}
use Rattle.checked_chart.specs.declared.parts.ListKind.{ListKind}
use Rattle.checked_chart.specs.declared.parts.ListKind.TheVariants.{Outer, Inner, Default}

-- a transition: its trigger, its guard, its condition action, its transition action, and where it leads
pub record Trans : Type 0 where
  pub event : Option ℕ
  pub guard : Option Expr
  pub condition : List Stmt
  pub action : List Stmt
  pub dest : Dest

-- what a state does: its actions and its lists, and whether it has history
pub record Node : Type 0 where
  pub entry : List Stmt
  pub during : List Stmt
  pub exit : List Stmt
  pub outer : List Trans
  pub inner : List Trans
  pub default : List Trans
  pub history : Bool

-- a chart: its tree, what it declares, a node for each state, and a list for each junction
pub record Chart : Type 0 where
  pub tree : Tree
  pub names : Names
  pub nodes : List Node
  pub junctions : List (List Trans)

-- ---- look-ups

-- a state that does nothing
unfoldable pub no_node : Node
no_node = record { entry = []; during = []; exit = []; outer = []; inner = []; default = []; history = false }

-- what state s does
unfoldable pub node : Chart → ℕ → Node
node c s = slice_index_or c.nodes s no_node

-- an action of a node
abbrev pub node_block : Node → BlockKind → List Stmt
node_block n Entry = n.entry
node_block n During = n.during
node_block n Exit = n.exit

-- a list of a node
abbrev pub node_list : Node → ListKind → List Trans
node_list n Outer = n.outer
node_list n Inner = n.inner
node_list n Default = n.default

-- an action of state s
abbrev pub block_of : Chart → ℕ → BlockKind → List Stmt
block_of c s kind = node_block (node c s) kind

-- a list of state s
abbrev pub list_of : Chart → ℕ → ListKind → List Trans
list_of c s kind = node_list (node c s) kind

-- how many junctions there are
unfoldable pub junction_count : Chart → ℕ
junction_count c = length c.junctions

-- the list of junction j
unfoldable pub junction : Chart → ℕ → List Trans
junction c j = slice_index_or c.junctions j []

-- under which condition a list is searched: a default list while the state has no active child
abbrev pub life_of : ℕ → ListKind → Life
life_of s Outer = On s
life_of s Inner = On s
life_of s Default = Bare s

-- ---- history

-- an OR whose node says so has history
unfoldable pub has_history : Chart → ℕ → Bool
has_history c s = is_or (comp_of c.tree s) && (node c s).history

-- whether the parent of s has history
unfoldable pub is_remembered : Chart → ℕ → Bool
is_remembered c s = option_map_or (has_history c) (parent_of c.tree s) false

-- the children that s may enter again by history: all of them where it has history, else none
unfoldable pub may_return : Chart → ℕ → List ℕ
may_return c s = if has_history c s then children_of c.tree s else []
