-- The states and junctions of a chart text as the code has them.
use Rattle.std.specs.Prelude.{◌≡◌, ◌+◌, ℕ, Bool, false, List, [], ◌∷◌, ◌++◌, length, map, Some}
use Rattle.std.specs.List.{AllByRecursion}
use Rattle.std.specs.Option.{unwrap_or}
use Rattle.chart_tree.specs.Trees.{Parts, State, StateOf, States}
use Rattle.chart_tree.specs.Views.{state_of, junction_of}
use Rattle.chart_places.specs.declared.states.PlacedState.{PlacedState}
use Rattle.chart_places.specs.declared.junctions.OwnedJunction.{OwnedJunction}
use Rattle.chart_places.specs.Placed.{Placed, Owned, is_any, placed_from, is_earlier}

-- ---- states

-- what a state has beside its child states
abbrev pub parts_in : State → Parts
parts_in (StateOf parts below) = parts

-- its child states
abbrev pub states_in : State → States
states_in (StateOf parts below) = below

-- a state of the code
abbrev pub placed_of : PlacedState → Placed
placed_of p = record {
  parent = p.parent;
  parts = parts_in (state_of p.state.now);
  has_children = is_any (states_in (state_of p.state.now));
}

-- states that follow one another in state s, and those below them, where the next number is n
abbrev pub placed_row : ℕ → ℕ → List State → List Placed
placed_row s n [] = []
placed_row s n (x ∷ xs) = placed_from (Some s) n x ++ placed_row s (n + length (placed_from (Some s) n x)) xs

-- the parents of states, 0 for the root
abbrev pub parent_numbers : List Placed → List ℕ
parent_numbers ps = map (λ (p : Placed). unwrap_or p.parent 0) ps

-- ---- junctions

-- a junction of the code
abbrev pub owned_of : OwnedJunction → Owned
owned_of o = record { owner = o.owner; junction = junction_of o.junction.now }

-- whether the name of a junction stands before that of another one
abbrev pub is_before : Owned → Owned → Bool
is_before a b = is_earlier a.junction.name.at b.junction.name.at

-- no name stands before that of a junction ahead of it in the list
abbrev pub IsInOrder : List Owned → Type 0
IsInOrder [] = Unit {0}
IsInOrder (x ∷ xs) = AllByRecursion (λ (y : Owned). is_before y x ≡ false) xs × IsInOrder xs
