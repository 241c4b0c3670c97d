-- The world of a run: what is active, what the data are, what was emitted, and what it has cost.
use Rattle.std.specs.Prelude.{◌≡◌, ℕ, ◌+◌, ◌<◌, nat_le, Bool, List, [], ◌∷◌}
use Rattle.std.specs.Prelude.{◌++◌, length, Result, Ok, Err, if◌then◌else◌, map}
use Rattle.std.specs.List.{AllByRecursion}
use Rattle.flow_base.specs.declared.bounds.Bounds.{Bounds}
use Rattle.flow_base.specs.declared.fault.Fault.{Fault}
use Rattle.flow_base.specs.declared.fault.Fault.TheVariants.{Steps}
use Rattle.active_config.specs.Tree.{Tree, state_count}
use Rattle.active_config.specs.Marks.{Configuration, no_marks, is_on, is_bare, IsConsistent}
use Rattle.actions.specs.Data.{Datum, initial, HaveTheirSorts}
use Rattle.actions.specs.Names.{Names}
use Rattle.actions.specs.declared.names.Var.{Var}
use Rattle.actions.specs.declared.names.Sort.{Sort}
use Rattle.fixed_point.specs.declared.fitting.Mode.{Mode}

-- what is active and what is remembered, the data, the events emitted in this event, and the steps used in it
pub record World : Type 0 where
  pub marks : Configuration
  pub vals : List Datum
  pub outputs : List ℕ
  pub used : ℕ

-- what a start begins with: no state is active and none remembers a child, the data have their first values, nothing
-- is emitted, and no step is used
abbrev pub world_before : Tree → Names → World
world_before t n = record { marks = no_marks t; vals = initial n; outputs = []; used = 0 }

-- what a reaction begins with, once the inputs are set: nothing is emitted yet and no step is used; what is active and
-- what is remembered stay, and so do the data
abbrev pub begun : World → World
begun w = record w { outputs = []; used = 0 }

-- a cost of one step: a fault where all steps of the event are used
abbrev pub paid : Bounds → World → Result World Fault
paid bounds w = if nat_le bounds.steps w.used then Err Steps else Ok (record w { used = w.used + 1 })

-- the event is emitted
abbrev pub emitted : ℕ → World → World
emitted event w = record w { outputs = w.outputs ++ event ∷ [] }

-- the condition under which a piece of work continues: a state is active, or a state is active and has no active child
pub data Life : Type 0 where
  On : ℕ → Life
  Bare : ℕ → Life

-- the work continues
abbrev pub lives : Tree → Life → Configuration → Bool
lives t (On s) marks = is_on s marks
lives t (Bare s) marks = is_bare t s marks

-- ---- a world of a tree and of what is declared

-- what a declaration fixes of a datum
pub record Declaration : Type 0 where
  pub sort : Sort
  pub mode : Mode

-- what is declared, read from the data of a world
abbrev pub of_data : List Datum → List Declaration
of_data vals = map (λ (d : Datum). record { sort = d.sort; mode = d.mode }) vals

-- what is declared, read from the declarations
abbrev pub of_names : Names → List Declaration
of_names n = map (λ (v : Var). record { sort = v.sort; mode = v.mode }) n.vars

-- the marks are consistent, the data are those that are declared with values of their sorts, and outputs are events
pub record Fits (t : Tree) (n : Names) (w : World) : Type 0 where
  pub states : length n.states ≡ state_count t
  pub consistent : IsConsistent t w.marks
  pub declared : of_data w.vals ≡ of_names n
  pub sorts : HaveTheirSorts w.vals
  pub outputs : AllByRecursion (λ event. event < length n.events) w.outputs
