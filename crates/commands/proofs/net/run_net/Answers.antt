use Rattle.std.proofs.Common.{◌∙◌, List, [], refl, subst}
use Rattle.commands.specs.Call.{Call, sources_of, call_of}
use Rattle.commands.specs.NetCharts.{ChartUnread, ReadsCharts, loaded_in}
use Rattle.commands.specs.NetCommand.{NetRead}
use Rattle.commands.specs.NetRoutes.{routes_in}
use Rattle.commands.specs.NetRules.{net_by_rules}
use Rattle.commands.specs.Schedule.{ScheduleEnds}
use Rattle.commands.specs.declared.net_charts.ReadFile.{ReadFile}
use Rattle.commands.proofs.NetChartLemmas.{reads_others}
use Rattle.commands.proofs.NetEndLemmas.{all_ended, good_as, no_net_others, no_chart_others, net_others}
use Rattle.commands.proofs.NetEndLemmas.{schedule_others, unread_name}
use Rattle.net_text.specs.NetTexts.{net_text_of}
use Rattle.net_text.specs.declared.net.NetChart.{NetChart}
use Rattle.commands.proofs.net.run_net.Goals as goal

-- nothing comes of the file of the net
pub returns-in-Err-clause-others : goal.returns-in-Err-clause-others
returns-in-Err-clause-others g c =
    no_net_others (call_of g.I.Inputs g.O.Sink c.args.inputs.now c.read_net_file.new.inputs c.args.out.now
    c.args.out.now)
    c.args.net_file.now c.args.schedule_file.now c.in-Err.end c.in-Err.ensures.given

-- nothing comes of the file of a chart
pub returns-in-Err-read_charts-clause-ends : goal.returns-in-Err-read_charts-clause-ends
returns-in-Err-read_charts-clause-ends g c =
    let net = net_text_of c.in-Ok.net in
    let between = sources_of g.I.Inputs c.read_net_file.new.inputs in
    let after = sources_of g.I.Inputs c.read_charts.new.inputs in
    let given = c.in-Ok.ensures.given in
    let unread =
    subst (λ (charts : List NetChart). ChartUnread between after charts c.in-Err-read_charts.unread.number
    c.in-Err-read_charts.unread.end)
    c.items.ensures c.in-Err-read_charts.ensures in (
      record {
        net = net;
        between = between;
        net_read = record { text = given.text; read = given.read; means = given.means };
        number = c.in-Err-read_charts.unread.number;
        unread = unread;
        named = c.of.ensures ∙ unread_name between after net c.in-Err-read_charts.unread.number
            c.in-Err-read_charts.unread.end unread;
      },
      refl,
    )

-- only its files were read
pub returns-in-Err-read_charts-clause-others : goal.returns-in-Err-read_charts-clause-others
returns-in-Err-read_charts-clause-others g c =
    let net = net_text_of c.in-Ok.net in
    let between = sources_of g.I.Inputs c.read_net_file.new.inputs in
    let after = sources_of g.I.Inputs c.read_charts.new.inputs in
    let given = c.in-Ok.ensures.given in
    let unread =
    subst (λ (charts : List NetChart). ChartUnread between after charts c.in-Err-read_charts.unread.number
    c.in-Err-read_charts.unread.end)
    c.items.ensures c.in-Err-read_charts.ensures in
    net_others (call_of g.I.Inputs g.O.Sink c.args.inputs.now c.read_charts.new.inputs c.args.out.now c.args.out.now)
    c.args.net_file.now c.args.schedule_file.now net between after (record {
      text = given.text;
      read = given.read;
      means =
          given.means;
    })
    (no_chart_others between after net.charts c.in-Err-read_charts.unread.number c.in-Err-read_charts.unread.end unread)
    (λ other ne. refl)

-- a route is refused
pub returns-in-Some-clause-others : goal.returns-in-Some-clause-others
returns-in-Some-clause-others g c =
    let net = net_text_of c.in-Ok.net in
    let between = sources_of g.I.Inputs c.read_net_file.new.inputs in
    let after = sources_of g.I.Inputs c.read_charts.new.inputs in
    let given = c.in-Ok.ensures.given in
    let reads =
    subst (λ (charts : List NetChart). ReadsCharts [] between after charts
    (loaded_in c.in-Ok-read_charts.files.items charts))
    c.items.ensures c.in-Ok-read_charts.ensures.0 in
    net_others (call_of g.I.Inputs g.O.Sink c.args.inputs.now c.read_charts.new.inputs c.args.out.now c.args.out.now)
    c.args.net_file.now c.args.schedule_file.now net between after (record {
      text = given.text;
      read = given.read;
      means =
          given.means;
    })
    (reads_others [] between after net.charts (loaded_in c.in-Ok-read_charts.files.items net.charts) reads)
    (λ other ne. refl)

-- the net ran
pub returns-clause-ends : goal.returns-clause-ends
returns-clause-ends g c =
    let net = net_text_of c.in-Ok.net in
    let files = c.in-Ok-read_charts.files.items in
    let loaded = loaded_in files net.charts in
    let between = sources_of g.I.Inputs c.read_net_file.new.inputs in
    let middle = sources_of g.I.Inputs c.read_charts.new.inputs in
    let call = call_of g.I.Inputs g.O.Sink c.args.inputs.now c.run_schedule.new.inputs c.args.out.now
    c.run_schedule.new.out in
    let later : Call = record call { sources_before = middle } in
    let given = c.in-Ok.ensures.given in
    let reads =
    subst (λ (charts : List NetChart). ReadsCharts [] between middle charts (loaded_in files charts))
    c.items.ensures c.in-Ok-read_charts.ensures.0 in
    let read : NetRead (sources_of g.I.Inputs c.args.inputs.now) middle c.args.net_file.now net loaded =
    record {
      between = between;
      net_read = record { text = given.text; read = given.read; means = given.means };
      charts_read = reads;
    } in
    let traces =
    subst (λ (fs : List ReadFile). ScheduleEnds (net_by_rules c.args.bounds (loaded_in fs net.charts)
    (routes_in (loaded_in fs net.charts) net.routes)) later c.args.schedule_file.now c.run_schedule.result)
    c.deref-2.ensures.value c.run_schedule.ensures in
    record {
      net = net;
      loaded = loaded;
      between = middle;
      read = read;
      good = good_as c.deref.result.now files c.items-2.result.now net.charts c.items-3.result.now net.routes
          c.bad_route.result
          c.deref.ensures.value c.items-2.ensures c.items-3.ensures c.bad_route.ensures c.in_default.is;
      traces = traces;
      ended = λ e.
          all_ended (net_by_rules c.args.bounds loaded (routes_in loaded net.routes)) call c.args.net_file.now
          c.args.schedule_file.now net
          loaded middle c.run_schedule.result read traces e;
    }

-- the files of the charts and the schedule were read
pub returns-clause-others : goal.returns-clause-others
returns-clause-others g c =
    let net = net_text_of c.in-Ok.net in
    let between = sources_of g.I.Inputs c.read_net_file.new.inputs in
    let middle = sources_of g.I.Inputs c.read_charts.new.inputs in
    let given = c.in-Ok.ensures.given in
    let reads =
    subst (λ (charts : List NetChart). ReadsCharts [] between middle charts
    (loaded_in c.in-Ok-read_charts.files.items charts))
    c.items.ensures c.in-Ok-read_charts.ensures.0 in
    net_others (call_of g.I.Inputs g.O.Sink c.args.inputs.now c.run_schedule.new.inputs c.args.out.now
    c.run_schedule.new.out)
    c.args.net_file.now c.args.schedule_file.now net between middle (record {
      text = given.text;
      read = given.read;
      means =
          given.means;
    })
    (reads_others [] between middle net.charts (loaded_in c.in-Ok-read_charts.files.items net.charts) reads)
    (schedule_others _
    (call_of g.I.Inputs g.O.Sink c.read_charts.new.inputs c.run_schedule.new.inputs c.args.out.now
    c.run_schedule.new.out)
    c.args.schedule_file.now c.run_schedule.result c.run_schedule.ensures)
