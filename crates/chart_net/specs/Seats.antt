-- A chart of a net as the code keeps it, and what its moves do.
use Rattle.std.specs.Prelude.{◌≡◌, ℕ, ◌+◌, ◌<◌, ◌^◌, length, Option, Some, None, Result}
use Rattle.flow_base.specs.declared.fault.Fault.{Fault}
use Rattle.actions.specs.Engines.{AnswersBy, IsFaultOf, fault_of, stage_after}
use Rattle.actions.specs.Names.{Names}
use Rattle.actions.specs.Runs.{EventWithInputs, ReactsWithInputs}
use Rattle.actions.specs.World.{World}
use Rattle.actions.specs.declared.engine.Engine.{Ghosts as Engine}
use Rattle.actions.specs.declared.engine.Halt.{Halt}
use Rattle.event_file.specs.LineValues.{IsMadeFor}
use Rattle.chart_net.specs.Nets.{ChartOf}
use Rattle.chart_net.specs.declared.seat.Seat.{Seat}

-- what the chart declares
abbrev pub names_at : {G : Type 0} → (members : Engine G) → Seat G → Names
names_at members seat = members.declared (members.program seat.engine)

-- the chart: its name and its program
abbrev pub chart_of : {G : Type 0} → (members : Engine G) → Seat G → ChartOf members.Program
chart_of members seat = record { name = seat.name; program = members.program seat.engine }

-- what the chart declares has numbers of 32 bits, and the values of its steps are made for it
pub record IsSeat {G : Type 0} (members : Engine G) (seat : Seat G) : Type 0 where
  pub few_events : length (names_at members seat).events < 2 ^ 32
  pub few_data : length (names_at members seat).vars < 2 ^ 32
  pub vals : IsMadeFor (names_at members seat) seat.vals

-- which worlds its start, or an event that it is given, may give
abbrev pub SeatGives : {G : Type 0} → (members : Engine G) → Seat G → Option EventWithInputs → World → Option Fault
    → Type 0
SeatGives members seat None w fault = members.Starts (members.program seat.engine) w fault
SeatGives members seat (Some given) w fault =
    ReactsWithInputs (members.Reacts (members.program seat.engine)) (members.world seat.engine) given w fault

-- how many events it took: one more where it was given one
abbrev pub index_after : ℕ → Option EventWithInputs → ℕ
index_after index None = index
index_after index (Some given) = index + 1

-- the chart was started, or was given an event, and its engine answered so
pub record SeatMoves {G : Type 0} (members : Engine G) (before after : Seat G) (given : Option EventWithInputs)
    (end : Result (Unit {0}) Halt) : Type 0 where
  pub name : after.name ≡ before.name
  pub program : members.program after.engine ≡ members.program before.engine
  pub vals : after.vals ≡ before.vals
  pub stage : members.stage after.engine ≡ stage_after end
  pub index : after.index ≡ index_after before.index given
  pub fault : IsFaultOf (names_at members before) (fault_of end)
  pub gives : AnswersBy (SeatGives members before given (members.world after.engine)) end
