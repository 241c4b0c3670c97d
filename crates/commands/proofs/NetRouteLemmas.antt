-- The routes that the texts of a net name.
use Rattle.std.proofs.Common.{◌≡◌, Bool, is_some, not, List, option_map}
use Rattle.std.specs.List.{find}
use Rattle.net_text.specs.declared.net.NetChart.{NetChart}
use Rattle.net_text.specs.declared.net.RouteText.{RouteText}
use Rattle.commands.specs.NetCharts.{AllRead, chart_numbered, loaded_in}
use Rattle.commands.specs.NetRoutes.{bad_route, route_between, route_in}
use Rattle.commands.specs.declared.net_charts.ReadFile.{ReadFile}
use Rattle.commands.proofs.NetChartLemmas.{numbered}

-- the text names no route
abbrev pub names_none : List NetChart → List ReadFile → RouteText → Bool
names_none charts files text =
    not (is_some (route_between text (chart_numbered charts files text.from) (chart_numbered charts files text.to)))

module _ (charts : List NetChart) (files : List ReadFile) (all : AllRead files charts) where
  -- the route that a text names is that of the charts which were loaded
  pub same_route : (text : RouteText)
      → route_between text (chart_numbered charts files text.from) (chart_numbered charts files text.to)
      ≡ route_in (loaded_in files charts) text
  same_route text = λ i.
      route_between text (numbered files charts text.from all i) (numbered files charts text.to all i)

  -- so is the first text that names none
  pub same_bad : (texts : List RouteText)
      → option_map (λ (text : RouteText). text.line) (find (names_none charts files) texts)
      ≡ bad_route (loaded_in files charts) texts
  same_bad texts = λ i.
      option_map (λ (text : RouteText). text.line) (find (λ (text : RouteText). not
      (is_some (same_route text i))) texts)
