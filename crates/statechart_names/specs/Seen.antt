-- What the code has, as definitions see it.
use Rattle.std.specs.Prelude.{ℕ, List, [], ◌∷◌, map, Option, Some, None}
use Rattle.chart_tree.specs.Trees.{Path}
use Rattle.chart_tree.specs.Views.{expr_of}
use Rattle.statechart_tree.specs.Trees.{State, States, NoState, MoreStates}
use Rattle.statechart_tree.specs.Views.{state_of, enumeration_of, function_of}
use Rattle.statechart_meaning.specs.Declared.{root_home}
use Rattle.statechart_meaning.specs.Functions.{bound, calls_of}
use Rattle.statechart_meaning.specs.Scope as spec
use Rattle.statechart_meaning.specs.Scope.{Frame, home_of, datum_or_value, path_datum}
use Rattle.statechart_meaning.specs.Values.{path_value}
use Rattle.statechart_values.specs.Views.{value_seen, valued_seen}
use Rattle.statechart_scope.specs.declared.frames.Frames.{Frames}
use Rattle.statechart_scope.specs.declared.frames.Frames.TheVariants as frames
use Rattle.statechart_scope.specs.Frames.{frames_of, frame_at, home_below}
use Rattle.statechart_names.specs.declared.scope.Declared.{Declared}
use Rattle.statechart_names.specs.declared.scope.Scope.{Scope}
use Rattle.statechart_names.specs.declared.states.Child.{Child}
use Rattle.statechart_names.specs.declared.meaning.Meaning.{Meaning}
use Rattle.statechart_names.specs.declared.meaning.Meaning.TheVariants as meanings

-- ---- states

-- states in a list, one behind the other
abbrev pub row_of : List State → States
row_of [] = NoState
row_of (s ∷ ss) = MoreStates s (row_of ss)

-- the lowest state
abbrev pub lowest_state : Frames → State
lowest_state (frames.Root state) = state_of state.now
lowest_state (frames.In' state n p above) = state_of state.now

-- its frame
abbrev pub lowest_frame : Frames → Frame
lowest_frame (frames.Root state) = frame_at root_home (state_of state.now)
lowest_frame (frames.In' state n p above) =
    frame_at (home_below (home_of (frames_of above)).path n (state_of state.now)) (state_of state.now)

-- its path
abbrev pub lowest_path : Frames → List (List ℕ)
lowest_path f = (home_of (frames_of f)).path

-- its number
abbrev pub lowest_number : Frames → ℕ
lowest_number f = (home_of (frames_of f)).number

-- the names of its data
abbrev pub lowest_names : Frames → List (List ℕ)
lowest_names f = (lowest_frame f).names

-- a child below a path
abbrev pub child_seen : List (List ℕ) → Child → Frame
child_seen path c = frame_at (home_below path c.number (state_of c.state.now)) (state_of c.state.now)

-- the first child of that name of the lowest state
abbrev pub child_in : Frames → List ℕ → Option Frame
child_in f name = spec.child_of (lowest_frame f) name

-- ---- scopes

-- what the statechart declares
abbrev pub declared_seen : Declared → spec.Declared
declared_seen d = record {
  enumerations = map enumeration_of d.enumerations.now;
  events = d.events.now;
  constants = map valued_seen d.constants.now;
}

-- what a name may mean
abbrev pub scope_seen : Scope → spec.Scope
scope_seen s = record {
  arguments = bound s.params.now (map expr_of s.arguments.now);
  frames = frames_of s.frames.now;
  declared = declared_seen s.declared;
  calls = calls_of (frames_of s.root.now) (declared_seen s.declared) (map function_of s.functions.now);
}

-- what a path denotes
abbrev pub meaning_seen : Meaning → spec.Meaning
meaning_seen (meanings.Argument e) = spec.IsArgument (expr_of e.now)
meaning_seen (meanings.Datum text) = spec.IsDatum text
meaning_seen (meanings.Value value) = spec.IsValue (value_seen value)
meaning_seen meanings.Unknown = spec.IsUnknown

-- what a path denotes that is no parameter
abbrev pub meaning_apart : spec.Scope → Path → spec.Meaning
meaning_apart s path =
    datum_or_value path (path_datum s.frames path) (path_value s.declared.enumerations s.declared.constants path)
