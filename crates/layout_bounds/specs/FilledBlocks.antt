-- How many actions of a chart aren't empty.
use Rattle.std.specs.Prelude.{◌+◌, ℕ, List, sum_by}
use Rattle.checked_chart.specs.Chart.{Chart, Node, Trans}
use Rattle.chart_code.specs.Places.{block_count}

-- those of a transition: its condition and its transition action
abbrev pub filled_of_trans : Trans → ℕ
filled_of_trans t = block_count t.condition + block_count t.action

-- those of the transitions of a list
abbrev pub filled_of_list : List Trans → ℕ
filled_of_list list = sum_by filled_of_trans list

-- those of a state: its entry, during and exit action, and those of its transitions
abbrev pub filled_of_node : Node → ℕ
filled_of_node n =
    block_count n.entry + block_count n.during + block_count n.exit
    + filled_of_list n.outer + filled_of_list n.inner + filled_of_list n.default

-- those of all states and junctions
unfoldable pub filled_blocks : Chart → ℕ
filled_blocks c = sum_by filled_of_node c.nodes + sum_by filled_of_list c.junctions
