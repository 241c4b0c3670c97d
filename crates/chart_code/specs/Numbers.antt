-- The numbers of the procedures of a chart.
use Rattle.std.specs.Prelude.{ℕ, List, [], ◌∷◌, Option, None}
use Rattle.checked_chart.specs.declared.parts.ListKind.{ListKind}
use Rattle.checked_chart.specs.declared.parts.ListKind.TheVariants.{Outer, Inner, Default}

-- the procedures of states, and the one procedure that ends a search at an empty junction
pub record Numbers : Type 0 where
  pub end_mark : ℕ
  -- the entry, the during and the exit action of a state
  pub entry : ℕ → ℕ
  pub during : ℕ → ℕ
  pub exit_action : ℕ → ℕ
  -- the children of a state are left, and a state is left
  pub leave : ℕ → ℕ
  pub exit : ℕ → ℕ
  -- a firing with this home and this destination, once the active child of the home is left; and from its beginning
  pub arrive : ℕ → ℕ → ℕ
  pub take : ℕ → ℕ → ℕ
  -- an OR is entered by default; and a state is entered on the path to the second one
  pub defaults : ℕ → ℕ
  pub enter : ℕ → ℕ → ℕ
  -- a list of a state is searched
  pub search : ℕ → ListKind → ℕ
  -- a state is processed
  pub process : ℕ → ℕ

-- the procedures of a transition, where it has them: its guard, its condition action, where the list's state has to be
-- active and where it has to be bare, and its transition action
pub record TransNumbers : Type 0 where
  pub guard : Option ℕ
  pub condition_on : Option ℕ
  pub condition_bare : Option ℕ
  pub action : Option ℕ

-- a transition without procedures
abbrev pub no_numbers : TransNumbers
no_numbers = record { guard = None; condition_on = None; condition_bare = None; action = None }

-- the procedure of the condition action for a kind of list
abbrev pub condition_of : ListKind → TransNumbers → Option ℕ
condition_of Outer q = q.condition_on
condition_of Inner q = q.condition_on
condition_of Default q = q.condition_bare

-- the numbers of the first transition
abbrev pub first_of_parts : List TransNumbers → TransNumbers
first_of_parts [] = no_numbers
first_of_parts (q ∷ qs) = q

-- those of the other transitions
abbrev pub other_parts : List TransNumbers → List TransNumbers
other_parts [] = []
other_parts (q ∷ qs) = qs

-- the procedures of the transitions of a list of a state and of a junction, and that of a junction for each list
pub record ListNumbers : Type 0 where
  pub parts : ℕ → ListKind → List TransNumbers
  pub junction_parts : ℕ → List TransNumbers
  pub junction : ℕ → ListKind → ℕ → ℕ
