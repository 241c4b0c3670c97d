-- Where the transitions of a net lead, and how many pairs of a list and a transition it has.
use Rattle.std.specs.Prelude.{ℕ}
use Rattle.active_config.specs.Tree.{state_count}
use Rattle.checked_chart.specs.Reached.{Links, PairsBelow}
use Rattle.chart_structure.specs.declared.net.Arrow.{Arrow}
use Rattle.chart_structure.specs.Net.{Net, list_of, junction_count, junction_list}

-- where each transition leads, the lists of the states, those of the junctions, and how many junctions there are
abbrev pub links_of : Net → Links Arrow
links_of n = record {
  dest = λ a. a.to;
  lists = list_of n;
  junction = junction_list n;
  junctions = junction_count n;
}

-- how many pairs the net has
abbrev pub NetPairs : Net → ℕ → Type 0
NetPairs n count = PairsBelow (links_of n) (state_count n.tree) count
