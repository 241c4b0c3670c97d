-- The net of the machines of charts, as the code makes it.
use Rattle.std.specs.Prelude.{◌≡◌, List, [], ◌∷◌, ◌++◌, map, Option, Some}
use Rattle.std.specs.List.{AllByRecursion}
use Rattle.flow_base.specs.declared.bounds.Bounds.{Bounds}
use Rattle.checked_chart.specs.Chart.{Chart}
use Rattle.checked_chart.specs.Valid.{IsValid}
use Rattle.chart_code.specs.Bodies.{code_of_chart}
use Rattle.chart_net.specs.NetParts.{IsNet, charts_of, routes_of}
use Rattle.chart_net.specs.Nets.{ChartOf}
use Rattle.chart_net.specs.declared.net.Net.{Net as Parts}
use Rattle.code_machine.specs.Engine.{EngineState, Program}
use Rattle.code_machine.specs.contracts.engine.MachineEngine.TheImpl as machine
use Rattle.commands.specs.NetCharts.{LoadedChart, loaded_as}
use Rattle.net_text.specs.declared.net.NetChart.{NetChart}
use Rattle.net_text.specs.declared.route.Route.{Route}

-- a net of machines
abbrev pub MachineNet : Type 0
MachineNet = Parts EngineState

-- the charts of a net of machines
abbrev pub machine_charts : MachineNet → List (ChartOf Program)
machine_charts net = charts_of machine.ghosts net

-- a chart as its machine runs it: its name, and its code with the bounds
abbrev pub program_of_chart : Bounds → LoadedChart → ChartOf Program
program_of_chart bounds c = record { name = c.name; program = record { code = code_of_chart c.chart; bounds = bounds } }

-- The net has the machines of these valid charts, and these routes. It isn't driven yet.
pub record IsMachineNet (bounds : Bounds) (loaded : List LoadedChart) (routes : List Route)
    (net : MachineNet) : Type 0 where
  pub whole : IsNet machine.ghosts net
  pub charts : machine_charts net ≡ map (program_of_chart bounds) loaded
  pub routes_are : routes_of net ≡ routes
  pub valid : AllByRecursion (λ (c : LoadedChart). IsValid c.chart) loaded

-- one chart more was added, which was found
pub record IsMachineAdded (bounds : Bounds) (c : NetChart) (found : Option Chart) (old new : MachineNet) : Type 0 where
  pub chart : Chart
  pub is : found ≡ Some chart
  pub valid : IsValid chart
  pub whole : IsNet machine.ghosts new
  pub charts : machine_charts new ≡ machine_charts old ++ program_of_chart bounds (loaded_as c chart) ∷ []
  pub routes : routes_of new ≡ routes_of old
