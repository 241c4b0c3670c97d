-- The bounds that the events of code need.
use Rattle.std.specs.Prelude.{◌≡◌, ◌≤◌, ◌⊎◌, ◌↔◌, ℕ, Bool, IsTrue, IsFalse, List, length, Option, Some, None}
use Rattle.flow_base.specs.Bounds.{AreBounds}
use Rattle.flow_base.specs.declared.bounds.Bounds.{Bounds}
use Rattle.flow_base.specs.declared.fault.Fault.{Fault}
use Rattle.flow_base.specs.declared.fault.Fault.TheVariants as faults
use Rattle.actions.specs.declared.event.Event.{Event}
use Rattle.actions.specs.Names.{Names}
use Rattle.actions.specs.Runs.{Moment, EventWithInputs}
use Rattle.actions.specs.World.{World}
use Rattle.code_language.specs.Code.{Code}
use Rattle.code_language.specs.Reactions.{Starts, Reacts, CodeRun}
use Rattle.code_counts.specs.Claims.{HasMost}
use Rattle.code_counts.specs.declared.numbers.Limits.{Limits}
use Rattle.code_counts.specs.declared.numbers.Counted.{Counted}
use Rattle.code_counts.specs.declared.numbers.Counted.TheVariants.{Steps, Depth}

-- two bounds of what is counted are the same, or no event of the code takes more than either
abbrev pub AreSameFor : Counted → Code → ℕ → ℕ → Type 0
AreSameFor c k bound bound' =
    (bound' ≡ bound) ⊎ ((most : ℕ) × HasMost c k most × (most ≤ bound) × (most ≤ bound'))

-- A bound of what is counted serves the code in place of another one: it is at least 1 and no greater; where it is
-- tested it is the other one, and where it isn't no event takes more.
pub record Serves (c : Counted) (k : Code) (bound found : ℕ) (tested : Bool) : Type 0 where
  pub some : 1 ≤ found
  pub no_greater : found ≤ bound
  pub same : IsTrue tested → found ≡ bound
  pub enough : IsFalse tested → (most : ℕ) × HasMost c k most × (most ≤ found)

-- a run may end without a fault, by a fault that isn't of a bound, or by that of a bound that is tested
abbrev pub MayEnd : (steps depth : Bool) → Option Fault → Type 0
MayEnd steps depth None = Unit {0}
MayEnd steps depth (Some faults.Depth) = IsTrue depth
MayEnd steps depth (Some faults.Steps) = IsTrue steps
MayEnd steps depth (Some (faults.Overflow v)) = Unit {0}
MayEnd steps depth (Some faults.Zero) = Unit {0}

-- an array with so many entries has room for what a start, whatever the first values of the data are, or a reaction,
-- from whatever world, emits under these bounds
pub record IsRoom (k : Code) (b : Bounds) (room : ℕ) : Type 0 where
  pub some : 1 ≤ room
  pub few : room ≤ b.steps
  pub start : (names : Names) (w : World) (x : Option Fault) → Starts (record k { names = names }) b w x
      → length w.outputs ≤ room
  pub reaction : (w w' : World) (e : Event) (x : Option Fault) → Reacts k b w e w' x → length w'.outputs ≤ room

-- the bounds that were found serve the code in place of the given ones, whatever it declares, and so whatever the first
-- values of its data are: the runs are the same, and a start and a reaction, from whatever world, end by the fault of a
-- bound only where it is tested, and emit no more events than there is room for
pub record IsLimit (k : Code) (b : Bounds) (found : Limits) : Type 0 where
  pub runs : (names : Names) (events : List EventWithInputs) (moments : List Moment)
      → CodeRun (record k { names = names }) b events moments
      ↔ CodeRun (record k { names = names }) found.bounds events moments
  pub start : (names : Names) (w : World) (x : Option Fault) → Starts (record k { names = names }) found.bounds w x
      → MayEnd found.tests_steps found.tests_depth x
  pub reaction : (w w' : World) (e : Event) (x : Option Fault) → Reacts k found.bounds w e w' x
      → MayEnd found.tests_steps found.tests_depth x
  pub steps : Serves Steps k b.steps found.bounds.steps found.tests_steps
  pub depth : Serves Depth k b.depth found.bounds.depth found.tests_depth
  pub outputs : IsRoom k found.bounds found.outputs
  pub in_range : AreBounds b.depth b.steps → AreBounds found.bounds.depth found.bounds.steps
