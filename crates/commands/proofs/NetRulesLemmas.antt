-- The net of the machines of charts runs as the net of the charts by the rules.
use Rattle.std.proofs.Common.{◌≡◌, ◌∙◌, ℕ, zero, suc, List, [], ◌∷◌, Option, Some, None, Result, map, refl, ap, subst}
use Rattle.std.proofs.Common.{option_map}
use Rattle.std.specs.Prelude.{slice_get}
use Rattle.std.specs.List.{AllByRecursion}
use Rattle.std.specs.Option.{option_map_or}
use Rattle.flow_base.specs.declared.bounds.Bounds.{Bounds}
use Rattle.active_config.specs.Tree.{tree_of}
use Rattle.actions.specs.Runs.{EventWithInputs, Moment, StartRelation, ReactionRelation, Runs}
use Rattle.checked_chart.specs.Chart.{Chart}
use Rattle.checked_chart.specs.Valid.{IsValid}
use Rattle.code_language.specs.Reactions as code
use Rattle.code_machine.specs.Engine.{Program}
use Rattle.code_machine.specs.contracts.engine.MachineEngine.TheImpl as machine
use Rattle.chart_code.specs.Bodies.{code_of_chart}
use Rattle.chart_code.proofs.Whole.{code_runs}
use Rattle.chart_net.specs.Nets.{Net, ChartOf, net_of, start_of, reaction_of}
use Rattle.net_text.specs.declared.net.NetChart.{NetChart}
use Rattle.net_text.specs.declared.route.Route.{Route}
use Rattle.step_driver.specs.Driving.{Seen}
use Rattle.chart_net.specs.NetDriving.{NetDrives}
use Rattle.chart_net.specs.declared.driver.NetEnd.{NetEnd}
use Rattle.commands.specs.NetCharts.{LoadedChart, AllRead, chart_numbered, loaded_in}
use Rattle.commands.specs.NetMachines.{program_of_chart}
use Rattle.commands.specs.NetRoutes.{chart_at}
use Rattle.commands.specs.NetRules.{start_by_rules, reaction_by_rules, no_names, net_by_rules}
use Rattle.commands.specs.Schedule.{end_by, end_with}
use Rattle.commands.specs.declared.net_charts.ReadFile.{ReadFile}
use Rattle.commands.proofs.NetChartLemmas.{numbered}
use Rattle.commands.proofs.SameNets.{ChartsRunToo}
use Rattle.commands.proofs.SameDriving.{net_drives}

-- which worlds the start of a chart's code may give
abbrev start_by_code : Bounds → Option Chart → StartRelation
start_by_code bounds None w fault = ⊥
start_by_code bounds (Some chart) w fault = code.Starts (code_of_chart chart) bounds w fault

-- which worlds an event may give
abbrev reaction_by_code : Bounds → Option Chart → ReactionRelation
reaction_by_code bounds None w event w' fault = ⊥
reaction_by_code bounds (Some chart) w event w' fault = code.Reacts (code_of_chart chart) bounds w event w' fault

-- one of a list by a function of each
pub get_map : {A B : Type 0} (f : A → B) (xs : List A) (n : ℕ) → slice_get (map f xs) n ≡ option_map f (slice_get xs n)
get_map f [] n = refl
get_map f (x ∷ xs) zero = refl
get_map f (x ∷ xs) (suc n) = get_map f xs n

module _ (bounds : Bounds) (loaded : List LoadedChart) (routes : List Route) where
  -- the programs of the machines
  abbrev programs : List (ChartOf Program)
  programs = map (program_of_chart bounds) loaded

  -- the net by the code
  abbrev net_by_code : Net
  net_by_code = record (net_by_rules bounds loaded routes) {
    starts = λ n. start_by_code bounds (chart_at loaded n);
    reacts = λ n. reaction_by_code bounds (chart_at loaded n);
  }

  -- the names
  names_are : (charts : List LoadedChart)
      → map (λ (c : ChartOf Program). c.name) (map (program_of_chart bounds) charts) ≡ map
      (λ (c : LoadedChart). c.name) charts
  names_are [] = refl
  names_are (c ∷ charts) = ap (λ (names : List (List ℕ)). c.name ∷ names) (names_are charts)

  -- the chart of a number, as its machine runs it
  program_at : (n : ℕ) → slice_get programs n ≡ option_map (program_of_chart bounds) (slice_get loaded n)
  program_at n = get_map (program_of_chart bounds) loaded n

  -- a start
  start_is : (o : Option LoadedChart) → start_of machine.ghosts (option_map (program_of_chart bounds) o)
      ≡ start_by_code bounds (option_map (λ (c : LoadedChart). c.chart) o)
  start_is None = refl
  start_is (Some c) = refl

  -- an event
  reaction_is : (o : Option LoadedChart) → reaction_of machine.ghosts (option_map (program_of_chart bounds) o)
      ≡ reaction_by_code bounds (option_map (λ (c : LoadedChart). c.chart) o)
  reaction_is None = refl
  reaction_is (Some c) = refl

  -- the tree of states
  tree_is : (o : Option LoadedChart)
      → option_map_or (λ (c : ChartOf Program). machine.ghosts.tree c.program)
      (option_map (program_of_chart bounds) o) (tree_of [] [])
      ≡ option_map_or (λ (c : Chart). c.tree) (option_map (λ (c : LoadedChart). c.chart) o) (tree_of [] [])
  unfolding code_of_chart
  tree_is None = refl
  tree_is (Some c) = refl

  -- what is declared
  declared_is : (o : Option LoadedChart)
      → option_map_or (λ (c : ChartOf Program). machine.ghosts.declared c.program)
      (option_map (program_of_chart bounds) o) no_names
      ≡ option_map_or (λ (c : Chart). c.names) (option_map (λ (c : LoadedChart). c.chart) o) no_names
  unfolding code_of_chart
  declared_is None = refl
  declared_is (Some c) = refl

  -- the net of the machines is the net by the code
  net_is : net_of machine.ghosts programs routes ≡ net_by_code
  net_is = λ i. record {
    names = names_are loaded i;
    starts = λ n. (ap (start_of machine.ghosts) (program_at n) ∙ start_is (slice_get loaded n)) i;
    reacts = λ n. (ap (reaction_of machine.ghosts) (program_at n) ∙ reaction_is (slice_get loaded n)) i;
    trees = λ n.
        (ap (λ (o : Option (ChartOf Program)). option_map_or (λ (c : ChartOf Program). machine.ghosts.tree c.program)
        o (tree_of [] []))
        (program_at n) ∙ tree_is (slice_get loaded n)) i;
    declared = λ n.
        (ap (λ (o : Option (ChartOf Program)). option_map_or (λ (c : ChartOf Program). machine.ghosts.declared
        c.program) o no_names)
        (program_at n) ∙ declared_is (slice_get loaded n)) i;
    routes = routes;
  }

  -- ---- runs

  -- no run has no start
  never : (events : List EventWithInputs) (moments : List Moment) (A : Type 0)
      → Runs (start_by_code bounds None) (reaction_by_code bounds None) events moments → A
  never events [] A runs = absurd runs
  never events (m ∷ moments) A runs = absurd runs.0

  -- the chart of a number is valid
  valid_at : (charts : List LoadedChart) (n : ℕ) (c : Chart) → AllByRecursion
      (λ (l : LoadedChart). IsValid l.chart) charts
      → chart_at charts n ≡ Some c → IsValid c
  valid_at [] n c all e = absurd cc
  valid_at (l ∷ charts) zero c all e = let same : l.chart ≡ c = cc in subst IsValid same all.0
  valid_at (l ∷ charts) (suc n) c all e = valid_at charts n c all.1 e

  module _ (all : AllByRecursion (λ (l : LoadedChart). IsValid l.chart) loaded) where
    -- the runs of the code of a chart are those of the chart
    to_rules : ChartsRunToo net_by_code.starts net_by_code.reacts (net_by_rules bounds loaded routes).starts
        (net_by_rules bounds loaded routes).reacts
    to_rules n events moments = go (chart_at loaded n) (λ c e. valid_at loaded n c all e)
      where
        go : (o : Option Chart) → ((c : Chart) → o ≡ Some c → IsValid c)
            → Runs (start_by_code bounds o) (reaction_by_code bounds o) events moments
            → Runs (start_by_rules bounds o) (reaction_by_rules bounds o) events moments
        go None valid runs = never events moments _ runs
        go (Some c) valid runs = (code_runs c (valid c refl) bounds events moments).1 runs

    -- and the other way
    to_code : ChartsRunToo (net_by_rules bounds loaded routes).starts (net_by_rules bounds loaded routes).reacts
        net_by_code.starts net_by_code.reacts
    to_code n events moments = go (chart_at loaded n) (λ c e. valid_at loaded n c all e)
      where
        go : (o : Option Chart) → ((c : Chart) → o ≡ Some c → IsValid c)
            → Runs (start_by_rules bounds o) (reaction_by_rules bounds o) events moments
            → Runs (start_by_code bounds o) (reaction_by_code bounds o) events moments
        go None valid runs = never events moments _ runs
        go (Some c) valid runs = (code_runs c (valid c refl) bounds events moments).0 runs

    -- what the machines are driven to is what the rules are
    pub drives_by_rules : (seen : Seen) (answer : Result (Unit {0}) NetEnd)
        → NetDrives (net_of machine.ghosts programs routes) seen answer
        → NetDrives (net_by_rules bounds loaded routes) seen answer
    drives_by_rules seen answer d =
        net_drives net_by_code (net_by_rules bounds loaded routes).starts (net_by_rules bounds loaded routes).reacts
        to_rules to_code seen answer (subst (λ (net : Net). NetDrives net seen answer) net_is d)

-- the ending by the files that were read is that of the net
pub same_end : (bounds : Bounds) (charts : List NetChart) (files : List ReadFile) (routes : List Route)
    → AllRead files charts
    → (answer : Result (Unit {0}) NetEnd)
    → end_by (chart_numbered charts files) answer ≡ end_with (net_by_rules bounds
    (loaded_in files charts) routes).declared answer
same_end bounds charts files routes all answer = λ i.
    end_with (λ n. option_map_or (λ (c : Chart). c.names) (numbered files charts n all i) no_names) answer
