use Rattle.std.proofs.Common.{◌∙◌, List, ap, refl, subst}
use Rattle.chart_net.specs.NetDriving.{NetDrives}
use Rattle.chart_net.specs.Nets.{ChartOf, net_of}
use Rattle.code_machine.specs.Engine.{Program}
use Rattle.code_machine.specs.contracts.engine.MachineEngine.TheImpl as machine
use Rattle.commands.specs.Call.{call_of}
use Rattle.commands.specs.NetCharts.{chart_numbered, loaded_in}
use Rattle.commands.specs.NetMachines.{machine_charts}
use Rattle.commands.specs.NetRoutes.{routes_in}
use Rattle.commands.specs.Schedule.{Driven, end_by}
use Rattle.commands.specs.Trace.{seen_of}
use Rattle.commands.proofs.NetRulesLemmas.{drives_by_rules, same_end}
use Rattle.net_text.specs.NetTexts.{net_text_of}
use Rattle.net_text.specs.declared.net.NetChart.{NetChart}
use Rattle.net_text.specs.declared.route.Route.{Route}
use Rattle.commands.proofs.schedule.run_schedule.Goals as goal

-- the net of the machines was driven, and so the net of the rules
pub returns : goal.returns
returns g c =
    let net = net_text_of c.args.net.now in
    let loaded = loaded_in c.args.files.now net.charts in
    let routes = routes_in loaded net.routes in
    let is = c.in-Ok.ensures in
    let call = call_of g.I.Inputs g.O.Sink c.args.inputs.now c.net_drive-answer.new.inputs c.args.out.now
    c.net_drive-answer.new.out in
    let seen = seen_of call c.args.schedule_file.now in
    let answer = c.net_drive-answer.result in
    Driven (record {
      answer = answer;
      drives = drives_by_rules c.args.bounds loaded routes is.valid seen answer
          (subst (λ (charts : List (ChartOf Program)). NetDrives (net_of machine.ghosts charts routes) seen answer)
          is.charts
          (subst (λ (all : List Route). NetDrives (net_of machine.ghosts
          (machine_charts c.in-Ok.machines) all) seen answer)
          is.routes_are c.net_drive-answer.ensures.drives));
      reads = c.net_drive-answer.ensures.reads;
      writes = c.net_drive-answer.ensures.writes;
      counts = c.net_drive-answer.ensures.counts;
      others = c.net_drive-answer.ensures.others;
      memory = c.net_drive-answer.ensures.memory refl;
      end_is = c.end_of.ensures
          ∙ ap (λ (charts : List NetChart). end_by (chart_numbered charts c.args.files.now) answer) c.items.ensures
          ∙ same_end c.args.bounds net.charts c.args.files.now routes c.requires.read answer;
    })
