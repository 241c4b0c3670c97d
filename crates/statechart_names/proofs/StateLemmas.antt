-- States of the code, their numbers and their names.
use Rattle.std.proofs.Common.{◌≡◌, ℕ, suc, ◌+◌, List, [], ◌∷◌, map, Option, Some, refl, ap, ap₂, ◌∙◌, sym}
use Rattle.std.proofs.Common.{arith, if◌then◌else◌}
use Rattle.std.proofs.lemmas.Grind.{common_steps}
use Rattle.std.specs.Prelude.{bytes_eq}
use Rattle.flow_base.specs.Lists.{items_of}
use Rattle.statechart_tree.specs.declared.state.SourceState.{SourceState, SourceState', Row_of-SourceState}
use Rattle.statechart_tree.specs.declared.state.SourceState.{end_of-SourceState, more_of-SourceState}
use Rattle.statechart_tree.specs.declared.state.SourceState.{out-SourceState, outs-SourceState'}
use Rattle.statechart_tree.specs.declared.state.SourceState.{items-the_row-SourceState, items_shown-the_row-SourceState-0}
use Rattle.statechart_tree.specs.Trees.{State, StateOf, States, MoreStates}
use Rattle.statechart_tree.specs.Views.{state_of, states_of}
use Rattle.statechart_meaning.specs.Scope.{Frame, state_count, states_count, child_named, child_of, home_of}
use Rattle.statechart_scope.specs.declared.frames.Frames.{Frames}
use Rattle.statechart_scope.specs.declared.frames.Frames.TheVariants as frames
use Rattle.statechart_scope.specs.Frames.{parts_in, states_in, frame_at, home_below, frames_of}
use Rattle.statechart_scope.proofs.StateViews.{name-seen}
use Rattle.statechart_names.specs.Seen.{row_of, lowest_state, lowest_frame, lowest_path, lowest_number, child_in}

-- the states of a row, one after the other
states-row : (n : _) (row : Row_of-SourceState n)
    → states_of row ≡ row_of (map state_of (items-the_row-SourceState n row))
states-row n end_of-SourceState = refl
states-row _ (more_of-SourceState {n = n} state others) = ap (MoreStates (state_of state)) (states-row n others)

-- the child states of a state of the code
pub states-seen : (s : SourceState) → states_in (state_of s) ≡ row_of (map state_of (items_of (out-SourceState s).states))
states-seen (SourceState' parts shape states) =
    rw (outs-SourceState' parts shape states, items_shown-the_row-SourceState-0 shape states) (states-row _ states)

-- ---- how many

count-below : (s : State) → state_count s ≡ suc (states_count (states_in s))
count-below (StateOf p states) = refl

-- a state and its child states
pub count-seen : (s : SourceState)
    → state_count (state_of s) ≡ suc (states_count (row_of (map state_of (items_of (out-SourceState s).states))))
count-seen s = count-below (state_of s) ∙ ap (λ (ss : States). suc (states_count ss)) (states-seen s)

pub ruleset count_steps = (common_steps, count-seen)

-- ---- by their names

-- one state more
pub child_named-next : (path : List (List ℕ)) (n : ℕ) (s : State) (others : States) (name : List ℕ)
    → child_named path n (MoreStates s others) name
    ≡ (if bytes_eq (parts_in s).name.text name then Some (frame_at (home_below path n s) s)
    else child_named path (n + state_count s) others name)
child_named-next path n (StateOf p states) others name = refl

child_in-states : (f : Frames)
    → child_in f ≡ child_named (lowest_path f) (suc (lowest_number f)) (states_in (lowest_state f))
child_in-states (frames.Root state) = refl
child_in-states (frames.In' state n p above) = refl

-- those of the lowest state
pub child_in-seen : (f : Frames) (s : SourceState) (states : List SourceState) (n : ℕ) (name : List ℕ)
    → state_of s ≡ lowest_state f → states ≡ items_of (out-SourceState s).states → n ≡ lowest_number f + 1
    → child_named (lowest_path f) n (row_of (map state_of states)) name ≡ child_in f name
child_in-seen f s states n name same all number =
    let next : n ≡ suc (lowest_number f) = omega (arith, number) in
    let below : row_of (map state_of states) ≡ states_in (lowest_state f) =
    ap (λ (l : List SourceState). row_of (map state_of l)) all ∙ sym (states-seen s) ∙ ap states_in same in
    ap₂ (λ (m : ℕ) (ss : States). child_named (lowest_path f) m ss name) next below
    ∙ ap (λ (g : List ℕ → Option Frame). g name) (sym (child_in-states f))

pub ruleset child_steps = (common_steps, child_named-next, child_in-seen, name-seen)
