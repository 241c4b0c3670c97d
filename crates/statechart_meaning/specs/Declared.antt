-- The states of a statechart in order, their data and their counters.
use Rattle.std.specs.Prelude.{ℕ, ◌+◌, suc, false, List, [], ◌∷◌, ◌++◌, map}
use Rattle.token_grammar.specs.declared.token.Span.{Span}
use Rattle.fixed_point.specs.declared.fitting.Mode.TheVariants.{Saturate}
use Rattle.chart_tree.specs.declared.name.NameText.{NameText}
use Rattle.chart_tree.specs.declared.chart.VarWord.TheVariants.{Local}
use Rattle.chart_tree.specs.declared.sort.InitText.TheVariants as inits
use Rattle.chart_tree.specs.Trees as core
use Rattle.statechart_tree.specs.declared.declarations.SourceEvent.{SourceEvent}
use Rattle.statechart_tree.specs.Trees.{Var, Parts, State, StateOf, States, NoState, MoreStates}
use Rattle.statechart_meaning.specs.Names.{Home, named, datum_name, counter_name, every_name}
use Rattle.statechart_meaning.specs.Values.{expand_sort, expand_first}
use Rattle.statechart_meaning.specs.Numbers.{number}
use Rattle.statechart_meaning.specs.Scope.{Declared, Frame, Calls, Scope, state_count, below_path, frame_of, home_of}
use Rattle.statechart_meaning.specs.Counting.{counted_events, Recurring, recurring}

-- ---- states

-- what a state has beside its child states, with the frames in which it stands, its own first
pub record Placed : Type 0 where
  pub frames : List Frame
  pub parts : Parts

abbrev mutual
  -- a state and all below it, each before those below it, in states with these frames
  pub placed_state : List Frame → Home → State → List Placed
  placed_state above home (StateOf p states) =
      record { frames = frame_of home p states ∷ above; parts = p }
      ∷ placed_below (frame_of home p states ∷ above) home.path (suc home.number) states

  -- states below a path and all below them, where the first has that number
  pub placed_below : List Frame → List (List ℕ) → ℕ → States → List Placed
  placed_below above path n NoState = []
  placed_below above path n (MoreStates (StateOf p states) others) =
      placed_state above (record { path = below_path path p; number = n }) (StateOf p states)
      ++ placed_below above path (n + state_count (StateOf p states)) others

-- the statechart as a state
abbrev pub root_home : Home
root_home = record { path = []; number = 0 }

-- all states
abbrev pub placed : State → List Placed
placed root = placed_state [] root_home root

-- what names mean in a state with these frames
abbrev pub scope_at : Declared → Calls → List Frame → Scope
scope_at declared calls frames = record { arguments = []; frames = frames; declared = declared; calls = calls }

-- ---- data

-- a datum of a state
abbrev pub expand_var : Declared → Home → Var → core.Var
expand_var d home v = record {
  kind = v.kind;
  name = named (datum_name home v.name.text) v.name.at;
  sort = expand_sort d.enumerations v.sort;
  init = expand_first d.enumerations d.constants v.sort v.name v.init;
}

-- the data of a state
abbrev pub vars_in : Declared → Placed → List core.Var
vars_in d x = map (expand_var d (home_of x.frames)) x.parts.vars

-- ---- counters

-- a counter: the name of its datum, and the event that it counts
pub record Counter : Type 0 where
  pub name : List ℕ
  pub event : NameText

-- the counters of a state
abbrev pub counters_in : List SourceEvent → Placed → List Counter
counters_in es x =
    map (λ (e : NameText). record { name = counter_name (home_of x.frames) e.text; event = e })
    (counted_events es x.parts)

-- a counter of `every`: the name of its datum, the event and the number
pub record EveryCounter : Type 0 where
  pub name : List ℕ
  pub counts : Recurring

-- those of a state
abbrev pub every_in : Declared → Calls → Placed → List EveryCounter
every_in d calls x =
    map (λ (r : Recurring). record { name = every_name (home_of x.frames) r.event.text r.number; counts = r })
    (recurring (scope_at d calls x.frames) x.parts)

-- a whole number of 32 bits that is 0 at first and stays at its end
abbrev pub counting_var : List ℕ → Span → core.Var
counting_var text at = record {
  kind = Local;
  name = named text at;
  sort = core.NumberSort (record { signed = false; width = 32; frac = 0 }) Saturate;
  init = inits.Number false (number 0) at;
}

-- the declarations of both
abbrev pub counter_var : Counter → core.Var
counter_var k = counting_var k.name k.event.at

-- the declaration of a counter of `every`
abbrev pub every_var : EveryCounter → core.Var
every_var k = counting_var k.name k.counts.event.at
