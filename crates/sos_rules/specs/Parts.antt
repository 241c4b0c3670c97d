-- The pieces of work that the rules of a run define, and what they answer.
use Rattle.std.specs.Prelude.{ℕ, List, Option}
use Rattle.actions.specs.Exprs.{Stmt}
use Rattle.actions.specs.World.{Life}
use Rattle.actions.specs.Work.{Unfinished, Work, End, Now}
use Rattle.checked_chart.specs.Chart.{Trans}

-- what a search of a list finds. Fire: a firing, that is, a path of transitions to a destination, with its transition
-- actions; DeadEnd: an empty junction; No: nothing; Stop: it was stopped by an early return
pub data Found : Type 0 where
  Fire : ℕ → List (List Stmt) → Found
  DeadEnd : Found
  No : Found
  Stop : Found

-- how processing a state ends. Stay: no firing led out of it; Out: a firing with this home led out of it
pub data Went : Type 0 where
  Stay : Went
  Out : ℕ → Went

-- the pieces of work that the rules define
pub record Parts : Type 0 where
  -- the statements of an action under a life, in order
  pub block : Life → List Stmt → Now → Work End
  -- an event is sent to the whole chart, or to a state
  pub send : ℕ → Option ℕ → Now → Work (Unit {0})
  -- a list of transitions is searched under a life
  pub search : Life → List Trans → Now → Work Found
  -- a state is left, and states are left in the order of a list
  pub exit : ℕ → Now → Work (Unit {0})
  pub exit_each : List ℕ → Now → Work (Unit {0})
  -- a state is entered on the path to the second one, which is the first or below it; and the states of a list are
  pub enter : ℕ → ℕ → Now → Work (Unit {0})
  pub enter_each : List ℕ → ℕ → Now → Work (Unit {0})
  -- an OR enters a child by default
  pub defaults : ℕ → Now → Work (Unit {0})
  -- the transition actions of a firing with this home are run
  pub play : ℕ → List (List Stmt) → Now → Work End
  -- a firing with this home and this destination is taken
  pub take : ℕ → ℕ → List (List Stmt) → Now → Work (Unit {0})
  -- an active state is processed, and regions are
  pub process : ℕ → Now → Work Went
  pub process_each : List ℕ → Now → Work Went

-- no piece of work is over
abbrev pub no_parts : Parts
no_parts = record {
  block = λ _ _ _ _. Unfinished;
  send = λ _ _ _ _. Unfinished;
  search = λ _ _ _ _. Unfinished;
  exit = λ _ _ _. Unfinished;
  exit_each = λ _ _ _. Unfinished;
  enter = λ _ _ _ _. Unfinished;
  enter_each = λ _ _ _ _. Unfinished;
  defaults = λ _ _ _. Unfinished;
  play = λ _ _ _ _. Unfinished;
  take = λ _ _ _ _ _. Unfinished;
  process = λ _ _ _. Unfinished;
  process_each = λ _ _ _. Unfinished;
}
