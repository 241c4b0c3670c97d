-- States of the code as definitions see them.
use Rattle.std.specs.Prelude.{ℕ, List, [], ◌∷◌}
use Rattle.statechart_tree.specs.Trees.{Parts, State, StateOf, States}
use Rattle.statechart_tree.specs.Views.{state_of}
use Rattle.statechart_meaning.specs.Names.{Home}
use Rattle.statechart_meaning.specs.Scope.{Frame, below_path, frame_of, home_of}
use Rattle.statechart_meaning.specs.Declared.{root_home}
use Rattle.statechart_scope.specs.declared.frames.Frames.{Frames}
use Rattle.statechart_scope.specs.declared.frames.Frames.TheVariants as variants

-- what a state has beside its child states, and these
abbrev pub parts_in : State → Parts
parts_in (StateOf p states) = p

abbrev pub states_in : State → States
states_in (StateOf p states) = states

-- the frame of a state
abbrev pub frame_at : Home → State → Frame
frame_at home s = frame_of home (parts_in s) (states_in s)

-- a state of that number below a path
abbrev pub home_below : List (List ℕ) → ℕ → State → Home
home_below path n s = record { path = below_path path (parts_in s); number = n }

-- the states of the code
abbrev pub frames_of : Frames → List Frame
frames_of (variants.Root state) = frame_at root_home (state_of state.now) ∷ []
frames_of (variants.In' state n p above) =
    frame_at (home_below (home_of (frames_of above)).path n (state_of state.now)) (state_of state.now)
    ∷ frames_of above
