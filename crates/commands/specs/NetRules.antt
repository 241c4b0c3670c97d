-- A net of charts by the rules.
use Rattle.std.specs.Prelude.{List, [], map, Option, Some, None}
use Rattle.std.specs.Option.{option_map_or}
use Rattle.flow_base.specs.declared.bounds.Bounds.{Bounds}
use Rattle.active_config.specs.Tree.{tree_of}
use Rattle.actions.specs.Names.{Names}
use Rattle.actions.specs.Runs.{StartRelation, ReactionRelation}
use Rattle.checked_chart.specs.Chart.{Chart}
use Rattle.sos_rules.specs.Reactions.{Starts, Reacts}
use Rattle.net_text.specs.declared.route.Route.{Route}
use Rattle.chart_net.specs.Nets.{Net}
use Rattle.commands.specs.NetCharts.{LoadedChart}
use Rattle.commands.specs.NetRoutes.{chart_at}

-- which worlds the start of a chart may give by the rules; a number that is no chart has none
abbrev pub start_by_rules : Bounds → Option Chart → StartRelation
start_by_rules bounds None w fault = ⊥
start_by_rules bounds (Some chart) w fault = Starts chart bounds w fault

-- which worlds an event may give by the rules
abbrev pub reaction_by_rules : Bounds → Option Chart → ReactionRelation
reaction_by_rules bounds None w event w' fault = ⊥
reaction_by_rules bounds (Some chart) w event w' fault = Reacts chart bounds w event w' fault

-- what is declared by a chart that isn't there
abbrev pub no_names : Names
no_names = record { states = []; vars = []; events = [] }

-- The net of charts and routes, where each chart runs by the rules, and each event has these bounds.
abbrev pub net_by_rules : Bounds → List LoadedChart → List Route → Net
net_by_rules bounds loaded routes = record {
  names = map (λ (c : LoadedChart). c.name) loaded;
  starts = λ n. start_by_rules bounds (chart_at loaded n);
  reacts = λ n. reaction_by_rules bounds (chart_at loaded n);
  trees = λ n. option_map_or (λ (c : Chart). c.tree) (chart_at loaded n) (tree_of [] []);
  declared = λ n. option_map_or (λ (c : Chart). c.names) (chart_at loaded n) no_names;
  routes = routes;
}
