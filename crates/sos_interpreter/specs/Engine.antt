-- What an engine of this crate runs, and what it is.
use Rattle.std.specs.Prelude.{◌≡◌, Option}
use Rattle.flow_base.specs.declared.bounds.Bounds.{Bounds}
use Rattle.flow_base.specs.declared.fault.Fault.{Fault}
use Rattle.actions.specs.declared.event.Event.{Event}
use Rattle.actions.specs.Engines.{Stage, Fresh}
use Rattle.actions.specs.World.{World, world_before}
use Rattle.checked_chart.specs.Chart.{Chart}
use Rattle.checked_chart.specs.Kept.{Kept, chart_of}
use Rattle.sos_rules.specs.Reactions as rules
use Rattle.sos_interpreter.specs.Charts.{FitsChart}

-- a chart, and the bounds of each event
pub record Program : Type 0 where
  pub chart : Chart
  pub bounds : Bounds

-- a start of a program is one by the rules
abbrev pub Starts : Program → World → Option Fault → Type 0
Starts p w f = rules.Starts p.chart p.bounds w f

-- a reaction of a program is one by the rules
abbrev pub Reacts : Program → World → Event → World → Option Fault → Type 0
Reacts p w e w' f = rules.Reacts p.chart p.bounds w e w' f

-- what an engine runs, its world, and how far its run is
pub record EngineState : Type 0 where
  pub chart : Kept
  pub bounds : Bounds
  pub world : World
  pub stage : Stage

-- the program of an engine
abbrev pub program_of : EngineState → Program
program_of e = record { chart = chart_of e.chart; bounds = e.bounds }

-- the world before the start of a chart
abbrev pub first_world : Chart → World
first_world c = world_before c.tree c.names

-- an engine before its start
abbrev pub fresh_engine : Kept → Bounds → EngineState
fresh_engine c b = record { chart = c; bounds = b; world = first_world (chart_of c); stage = Fresh }

-- the world of an engine fits its chart, and before the start it is the world before the start
pub record IsEngine (e : EngineState) : Type 0 where
  pub fits : FitsChart (chart_of e.chart) e.world
  pub fresh : e.stage ≡ Fresh → e.world ≡ first_world (chart_of e.chart)
