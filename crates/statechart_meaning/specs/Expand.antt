-- The chart for which a statechart stands.
use Rattle.std.specs.Prelude.{Bool, true, false, List, [], ◌∷◌, ◌++◌, map, if◌then◌else◌}
use Rattle.std.specs.List.{flat_map}
use Rattle.token_grammar.specs.declared.token.Span.{Span}
use Rattle.chart_tree.specs.declared.chart.EventText.{EventText}
use Rattle.chart_tree.specs.Trees as core
use Rattle.statechart_tree.specs.declared.declarations.SourceEvent.{SourceEvent}
use Rattle.statechart_tree.specs.Trees.{State, StateOf, Statechart}
use Rattle.statechart_meaning.specs.Values.{values_of}
use Rattle.statechart_meaning.specs.Scope.{Declared, Frame, Calls, frame_of}
use Rattle.statechart_meaning.specs.Functions.{calls_of}
use Rattle.statechart_meaning.specs.Counting.{OnAction, ons_in}
use Rattle.statechart_meaning.specs.Declared.{Placed, placed, root_home, vars_in, Counter, counters_in, EveryCounter}
use Rattle.statechart_meaning.specs.Declared.{every_in, counter_var, every_var}
use Rattle.statechart_meaning.specs.Counters.{counting, every_counting, events_of, every_events, next_junctions}
use Rattle.statechart_meaning.specs.States.{expand_state}

-- what a statechart declares
abbrev pub declared_of : Statechart → Declared
declared_of x = record {
  enumerations = x.enumerations;
  events = x.events;
  constants = values_of x.enumerations x.constants;
}

-- the frame of the statechart
abbrev pub root_frame : State → Frame
root_frame (StateOf p states) = frame_of root_home p states

-- what calls of its functions stand for
abbrev pub functions_of : Statechart → Calls
functions_of x = calls_of (root_frame x.root ∷ []) (declared_of x) x.functions

-- its counters
abbrev pub counters_of : Statechart → List Counter
counters_of x = flat_map (counters_in x.events) (placed x.root)

-- its counters of `every`
abbrev pub every_of : Statechart → List EveryCounter
every_of x = flat_map (every_in (declared_of x) (functions_of x)) (placed x.root)

-- its actions for cases
abbrev pub ons_of : Statechart → List OnAction
ons_of x = flat_map (λ (p : Placed). ons_in p.parts.actions) (placed x.root)

-- the place of a state's name
abbrev pub state_place : State → Span
state_place (StateOf p states) = p.name.at

-- an event, without its period
abbrev pub expand_event : SourceEvent → EventText
expand_event e = record { kind = e.kind; name = e.name }

-- the data: those of states, the counters of `every`, and behind all others the counters
abbrev pub vars_of : Statechart → List core.Var
vars_of x =
    flat_map (vars_in (declared_of x)) (placed x.root) ++ map every_var (every_of x) ++ map counter_var (counters_of x)

-- what counts at the head of the inner list of the statechart
abbrev pub counts_of : Bool → Statechart → List core.Trans
counts_of counted x =
    (if counted then map (counting (counters_of x)) (events_of (counters_of x)) else [])
    ++ map (every_counting (every_of x)) (every_events (every_of x))

-- The chart for which a statechart stands, with what counts or without it: then its counters are declared, and nothing
-- sets one to 0 or makes it one more.
abbrev pub expand_with : Bool → Statechart → core.Chart
expand_with counted x = record {
  events = map expand_event x.events;
  vars = vars_of x;
  root =
      expand_state counted (declared_of x) (functions_of x) [] root_home (counts_of counted x)
      (next_junctions (counters_of x) (every_of x) (ons_of x) (state_place x.root)) x.root;
}

-- the chart for which a statechart stands
unfoldable pub expand : Statechart → core.Chart
expand x = expand_with true x

-- the chart without what counts
unfoldable pub uncounted : Statechart → core.Chart
uncounted x = expand_with false x
