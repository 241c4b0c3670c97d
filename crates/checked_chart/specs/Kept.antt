-- What a chart of the code keeps, and the chart that it is.
use Rattle.std.specs.Prelude.{List}
use Rattle.active_config.specs.Tree.{Tree}
use Rattle.actions.specs.declared.names.Names as declared
use Rattle.actions.specs.Names.{names_of}
use Rattle.checked_chart.specs.declared.parts.StateParts.{StateParts}
use Rattle.checked_chart.specs.declared.parts.Trans.{Trans}
use Rattle.checked_chart.specs.Chart.{Chart}
use Rattle.checked_chart.specs.Views.{chart_seen}

-- a tree, what is declared, a part for each state, and the lists of the junctions
pub record Kept : Type 0 where
  pub tree : Tree
  pub names : declared.Names
  pub states : List StateParts
  pub junctions : List (List Trans)

-- the chart that they make
unfoldable pub chart_of : Kept → Chart
chart_of k = chart_seen k.tree (names_of k.names) k.states k.junctions
