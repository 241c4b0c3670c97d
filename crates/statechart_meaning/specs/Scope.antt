-- What a name means where it stands.
use Rattle.std.specs.Prelude.{ℕ, ◌+◌, suc, List, [], ◌∷◌, ◌++◌, map, Option, Some, None, bytes_eq, is_some}
use Rattle.std.specs.Prelude.{if◌then◌else◌}
use Rattle.flow_base.specs.Names.{index_of}
use Rattle.chart_tree.specs.declared.name.NameText.{NameText}
use Rattle.chart_tree.specs.Trees as core
use Rattle.chart_tree.specs.Trees.{Path}
use Rattle.statechart_tree.specs.declared.declarations.SourceEvent.{SourceEvent}
use Rattle.statechart_tree.specs.Trees.{Enumeration, Var, Parts, State, StateOf, States, NoState, MoreStates}
use Rattle.statechart_meaning.specs.Names.{Home, named, datum_name}
use Rattle.statechart_meaning.specs.Values.{Value, Valued, path_value}

-- what a statechart declares: its enumerations, its events, and its constants with their values
pub record Declared : Type 0 where
  pub enumerations : List Enumeration
  pub events : List SourceEvent
  pub constants : List Valued

-- a state on the way from the place of a name to the statechart: which one, the names of its data, and its child states
pub record Frame : Type 0 where
  pub home : Home
  pub names : List (List ℕ)
  pub states : States

-- a parameter with its argument
pub record Argument : Type 0 where
  pub name : List ℕ
  pub value : core.Expr

-- the names of functions, and what calls of them stand for, given the name and the arguments: a value, or statements
pub record Calls : Type 0 where
  pub names : List (List ℕ)
  pub value : NameText → List core.Expr → core.Expr
  pub block : NameText → List core.Expr → List core.Stmt

-- what a name may mean: an argument; data of these states, the lowest first; what the statechart declares; a function
pub record Scope : Type 0 where
  pub arguments : List Argument
  pub frames : List Frame
  pub declared : Declared
  pub calls : Calls

-- ---- states

-- how many states a state is with those below it
abbrev mutual
  -- a state and all below it
  pub state_count : State → ℕ
  state_count (StateOf p states) = suc (states_count states)

  -- states and all below them
  pub states_count : States → ℕ
  states_count NoState = 0
  states_count (MoreStates state others) = state_count state + states_count others

-- the state of a name below a path
abbrev pub below_path : List (List ℕ) → Parts → List (List ℕ)
below_path path p = path ++ p.name.text ∷ []

-- the frame of a state
abbrev pub frame_of : Home → Parts → States → Frame
frame_of home p states = record { home = home; names = map (λ (v : Var). v.name.text) p.vars; states = states }

-- a child state that was found: its frame
abbrev pub found_child : Home → State → Frame
found_child home (StateOf p states) = frame_of home p states

-- the first of some states below a path that has the name, where the first of them has that number
abbrev pub child_named : List (List ℕ) → ℕ → States → List ℕ → Option Frame
child_named path n NoState name = None
child_named path n (MoreStates (StateOf p states) others) name =
    if bytes_eq p.name.text name
    then Some (frame_of (record { path = below_path path p; number = n }) p states)
    else child_named path (n + state_count (StateOf p states)) others name

-- the child of that name of a state
abbrev pub child_of : Frame → List ℕ → Option Frame
child_of f name = child_named f.home.path (suc f.home.number) f.states name

-- the frame, or else the other one
abbrev pub or_frame : Option Frame → Option Frame → Option Frame
or_frame None other = other
or_frame (Some f) other = Some f

-- the child of that name of the first state that has one
abbrev pub state_named : List Frame → List ℕ → Option Frame
state_named [] name = None
state_named (f ∷ fs) name = or_frame (child_of f name) (state_named fs name)

-- ---- data

-- the datum of that name of a state
abbrev pub datum_in : Frame → List ℕ → Option (List ℕ)
datum_in f name = if is_some (index_of name f.names) then Some (datum_name f.home name) else None

-- the text, or else the other one
abbrev pub or_text : Option (List ℕ) → Option (List ℕ) → Option (List ℕ)
or_text None other = other
or_text (Some text) other = Some text

-- the datum of that name of the first state that has one
abbrev pub datum_named : List Frame → List ℕ → Option (List ℕ)
datum_named [] name = None
datum_named (f ∷ fs) name = or_text (datum_in f name) (datum_named fs name)

-- each further name of a path is that of a child, and the last one that of a datum
abbrev pub datum_below : Option Frame → Path → Option (List ℕ)
datum_below None names = None
datum_below (Some f) [] = None
datum_below (Some f) (x ∷ []) = datum_in f x.text
datum_below (Some f) (x ∷ (y ∷ rest)) = datum_below (child_of f x.text) (y ∷ rest)

-- the datum that a path denotes: `x`, or `S.x`
abbrev pub path_datum : List Frame → Path → Option (List ℕ)
path_datum fs [] = None
path_datum fs (x ∷ []) = datum_named fs x.text
path_datum fs (x ∷ (y ∷ rest)) = datum_below (state_named fs x.text) (y ∷ rest)

-- ---- names

-- the first argument of the name
abbrev pub argument_named : List Argument → List ℕ → Option core.Expr
argument_named [] name = None
argument_named (a ∷ rest) name = if bytes_eq a.name name then Some a.value else argument_named rest name

-- the argument that a path denotes
abbrev pub path_argument : List Argument → Path → Option core.Expr
path_argument arguments [] = None
path_argument arguments (x ∷ []) = argument_named arguments x.text
path_argument arguments (x ∷ (y ∷ rest)) = None

-- what a path denotes
pub data Meaning : Type 0 where
  IsArgument : core.Expr → Meaning
  IsDatum : List ℕ → Meaning
  IsValue : Value → Meaning
  IsUnknown : Meaning

-- a value, or nothing
abbrev pub or_unknown : Option Value → Meaning
or_unknown None = IsUnknown
or_unknown (Some v) = IsValue v

-- a datum, or else a value
abbrev pub or_value : Option (List ℕ) → Option Value → Meaning
or_value None value = or_unknown value
or_value (Some text) value = IsDatum text

-- a plain name means a datum before a constant or an enumerator, a path an enumerator before a datum
abbrev pub datum_or_value : Path → Option (List ℕ) → Option Value → Meaning
datum_or_value [] datum value = IsUnknown
datum_or_value (x ∷ []) datum value = or_value datum value
datum_or_value (x ∷ (y ∷ rest)) datum None = or_value datum None
datum_or_value (x ∷ (y ∷ rest)) datum (Some v) = IsValue v

-- an argument before all else
abbrev pub or_meaning : Option core.Expr → Meaning → Meaning
or_meaning None other = other
or_meaning (Some e) other = IsArgument e

-- what a path denotes
abbrev pub meaning_of : Scope → Path → Meaning
meaning_of s path =
    or_meaning (path_argument s.arguments path)
    (datum_or_value path (path_datum s.frames path) (path_value s.declared.enumerations s.declared.constants path))

-- the first name of a path
abbrev pub first_name : Path → NameText
first_name [] = named [] (record { line = 0; column = 0 })
first_name (x ∷ rest) = x

-- ---- the state of a place

-- the state in which something stands
abbrev pub home_of : List Frame → Home
home_of [] = record { path = []; number = 0 }
home_of (f ∷ fs) = f.home
