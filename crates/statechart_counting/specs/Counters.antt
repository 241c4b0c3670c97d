-- The counters of a statechart as those of the chart for which it stands.
use Rattle.std.specs.Prelude.{List, map}
use Rattle.statechart_tree.specs.declared.declarations.SourceEvent.{SourceEvent}
use Rattle.statechart_tree.specs.Trees.{Statechart}
use Rattle.statechart_meaning.specs.Declared as statecharts
use Rattle.statechart_meaning.specs.Declared.{Placed, placed, counters_in}
use Rattle.counting_trees.specs.Counters.{Counter}

-- a counter: the name of its datum, and the event that it counts
abbrev pub counter_of : statecharts.Counter → Counter
counter_of k = record { name = k.name; event = k.event }

-- the counters of states, a list for each
abbrev pub counters_of_states : List SourceEvent → List Placed → List (List Counter)
counters_of_states es states = map (λ (p : Placed). map counter_of (counters_in es p)) states

-- those of a statechart, the states in their order
abbrev pub counters_by_state : Statechart → List (List Counter)
counters_by_state x = counters_of_states x.events (placed x.root)
