-- A route of the charts of a net joins two of its machines.
use Rattle.std.proofs.Common.{◌≡◌, ◌∙◌, ℕ, ◌<◌, List, [], ◌∷◌, ◌++◌, Option, Some, None, refl, sym, ap, subst, length}
use Rattle.std.proofs.Common.{arith, option_map}
use Rattle.std.specs.Prelude.{slice_get}
use lib.ListN.{get_or}
use Rattle.flow_base.specs.declared.bounds.Bounds.{Bounds}
use Rattle.actions.specs.Names.{Names}
use Rattle.checked_chart.specs.Chart.{Chart}
use Rattle.chart_code.specs.Bodies.{code_of_chart}
use Rattle.chart_net.specs.NetParts.{IsNet, net_shown, routes_of}
use Rattle.chart_net.specs.Nets.{ChartOf}
use Rattle.chart_net.specs.Routes.{IsRoute}
use Rattle.chart_net.proofs.PartLemmas.{is_route}
use Rattle.code_machine.specs.Engine.{Program}
use Rattle.code_machine.specs.contracts.engine.MachineEngine.TheImpl as machine
use Rattle.net_text.specs.NetTexts.{IsRouteWithin}
use Rattle.net_text.specs.Routes.{Joins}
use Rattle.net_text.specs.declared.net.NetChart.{NetChart}
use Rattle.net_text.specs.declared.net.RouteText.{RouteText}
use Rattle.net_text.specs.declared.route.Route.{Route}
use Rattle.commands.specs.NetCharts.{LoadedChart, AllRead, chart_numbered, loaded_in}
use Rattle.commands.specs.NetMachines.{MachineNet, machine_charts, program_of_chart, IsMachineNet}
use Rattle.commands.specs.NetRoutes.{IsJoined, route_in, routes_in}
use Rattle.commands.specs.declared.net_charts.ReadFile.{ReadFile}
use Rattle.commands.proofs.NetChartLemmas.{numbered}
use Rattle.commands.proofs.NetMachineLemmas.{routes_more}
use Rattle.commands.proofs.NetRulesLemmas.{get_map}

-- a chart that was loaded, with that chart
record Loaded (o : Option LoadedChart) (chart : Chart) : Type 0 where
  pub l : LoadedChart
  pub there : o ≡ Some l
  pub is : l.chart ≡ chart

-- where there is a chart, one was loaded
loaded_of : (o : Option LoadedChart) (chart : Chart) → option_map (λ (l : LoadedChart). l.chart) o ≡ Some chart
    → Loaded o chart
loaded_of None chart e = absurd cc
loaded_of (Some l) chart e = record { l = l; there = refl; is = cc }

-- what a chart's machine declares
declares : (bounds : Bounds) (l : LoadedChart) (chart : Chart) → l.chart ≡ chart
    → machine.ghosts.declared (program_of_chart bounds l).program ≡ chart.names
unfolding code_of_chart
declares bounds l chart e = ap (λ (c : Chart). c.names) e

module _ (bounds : Bounds) (charts : List NetChart) (files : List ReadFile) (all : AllRead files charts)
    (routes : List Route)
    (net : MachineNet) (is : IsMachineNet bounds (loaded_in files charts) routes net) where
  -- the machine of the chart of a number
  machine_at : (n m : ℕ) (chart : Chart) (l : LoadedChart) → m ≡ n → slice_get (loaded_in files charts) n ≡ Some l
      → slice_get (machine_charts net) m ≡ Some (program_of_chart bounds l)
  machine_at n m chart l same there =
      ap (slice_get (machine_charts net)) same ∙ ap (λ (cs : List (ChartOf Program)). slice_get cs n) is.charts
      ∙ get_map (program_of_chart bounds) (loaded_in files charts) n ∙ ap (option_map (program_of_chart bounds)) there

  -- the route of a text is one that the net may have
  pub joined_route : (text : RouteText) (route : Route)
      → IsJoined text (chart_numbered charts files text.from) (chart_numbered charts files text.to) route
      → IsRouteWithin (length charts) text → IsRoute (net_shown machine.ghosts net) route
  joined_route text route joined within =
      let from = loaded_of (slice_get (loaded_in files charts) text.from) joined.first
      (sym (numbered files charts text.from all) ∙ joined.from_is) in
      let to = loaded_of (slice_get (loaded_in files charts) text.to) joined.second
      (sym (numbered files charts text.to all) ∙ joined.to_is) in
      let cap = joined.numbers.cap in
      is_route machine.ghosts net route (program_of_chart bounds from.l) (program_of_chart bounds to.l)
      (machine_at text.from route.from joined.first from.l joined.numbers.from from.there)
      (machine_at text.to route.to joined.second to.l joined.numbers.to to.there)
      (subst (λ (n : Names). Joins n (machine.ghosts.declared (program_of_chart bounds to.l).program) route)
      (sym (declares bounds from.l joined.first from.is))
      (subst (λ (n : Names). Joins joined.first.names n route) (sym (declares bounds to.l joined.second to.is))
      joined.joins))
      (omega (arith, cap, within.some)) (omega (arith, cap, within.few))

-- one route more was added
pub route_added : (bounds : Bounds) (loaded : List LoadedChart) (ahead : List RouteText) (text : RouteText)
    (route : Route)
    (old new : MachineNet) → IsMachineNet bounds loaded (routes_in loaded ahead) old → route_in loaded text ≡ Some route
    → IsNet machine.ghosts new → machine_charts new ≡ machine_charts old → routes_of new ≡ routes_of old ++ route ∷ []
    → IsMachineNet bounds loaded (routes_in loaded (ahead ++ text ∷ [])) new
route_added bounds loaded ahead text route old new is there whole charts routes = record {
  whole = whole;
  charts = charts ∙ is.charts;
  routes_are = routes ∙ ap (λ (r : List Route). r ++ route ∷ []) is.routes_are ∙ sym
      (routes_more loaded ahead text route there);
  valid = is.valid;
}

-- a text that is shown of a list is one of the list
pub text_at : (shown texts : List RouteText) (i : ℕ) (x : RouteText) → shown ≡ texts → i < length shown
    → x ≡ get_or shown i x
    → (i < length texts) × (x ≡ get_or texts i x)
text_at shown texts i x same lt at =
    subst (λ (ts : List RouteText). (i < length ts) × (x ≡ get_or ts i x)) same (lt, at)
