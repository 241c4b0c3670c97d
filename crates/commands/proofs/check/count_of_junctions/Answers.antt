use Rattle.std.proofs.Common.{arith, ◌<◌}
use Rattle.checked_chart.specs.Chart.{junction_count}
use Rattle.checked_chart.specs.Kept.{chart_of}
use Rattle.commands.proofs.CountLemmas.{junction_more, junctions_counted}
use Rattle.commands.proofs.check.count_of_junctions.Goals as goal

pub overflow_cast-count : goal.overflow_cast-count
overflow_cast-count c =
    let chart = chart_of c.args.chart.now in
    let lt = c.junctions-test.true in
    let within : c.junctions.junction < junction_count chart = omega (arith, lt, c.junctions.invariant.all) in
    let more =
    junction_more chart c.shape.ensures.valid c.junctions.junction c.junctions.count c.junction.result.now within
    c.junctions.invariant.counted c.junction.ensures.list in
    let few = more.1 in
    omega (arith, few)

pub overflow_add-count : goal.overflow_add-count
overflow_add-count c =
    let chart = chart_of c.args.chart.now in
    let lt = c.junctions-test.true in
    let within : c.junctions.junction < junction_count chart = omega (arith, lt, c.junctions.invariant.all) in
    let more =
    junction_more chart c.shape.ensures.valid c.junctions.junction c.junctions.count c.junction.result.now within
    c.junctions.invariant.counted c.junction.ensures.list in
    let few = more.1 in
    omega (arith, few)

pub junctions-preserved : goal.junctions-preserved
junctions-preserved c =
    let chart = chart_of c.args.chart.now in
    let lt = c.junctions-test.true in
    let within : c.junctions.junction < junction_count chart = omega (arith, lt, c.junctions.invariant.all) in
    let more =
    junction_more chart c.shape.ensures.valid c.junctions.junction c.junctions.count c.junction.result.now within
    c.junctions.invariant.counted c.junction.ensures.list in
    record { all = c.junctions.invariant.all; within = omega (arith, within); counted = more.0 }

pub returns : goal.returns
returns c =
    let chart = chart_of c.args.chart.now in
    let ended = c.junctions-test.false in
    junctions_counted chart c.junctions.junction c.junctions.count (omega (arith, ended, c.junctions.invariant.within, c.junctions.invariant.all))
    c.junctions.invariant.counted
