use Rattle.std.proofs.Common.{arith, ◌<◌}
use Rattle.active_config.specs.Tree.{state_count}
use Rattle.checked_chart.specs.Kept.{chart_of}
use Rattle.commands.proofs.CountLemmas.{state_more, states_counted}
use Rattle.commands.proofs.check.count_of_states.Goals as goal

pub overflow_add-count : goal.overflow_add-count
overflow_add-count c =
    let chart = chart_of c.args.chart.now in
    let lt = c.states-test.true in
    let more =
    state_more chart c.shape.ensures.valid c.states.state c.states.count c.count_of_state-count.result (omega (arith, lt, c.states.invariant.all))
    c.states.invariant.counted c.count_of_state-count.ensures in
    let few = more.1 in
    omega (arith, few)

pub states-preserved : goal.states-preserved
states-preserved c =
    let chart = chart_of c.args.chart.now in
    let lt = c.states-test.true in
    let within : c.states.state < state_count chart.tree = omega (arith, lt, c.states.invariant.all) in
    let more =
    state_more chart c.shape.ensures.valid c.states.state c.states.count c.count_of_state-count.result within
    c.states.invariant.counted c.count_of_state-count.ensures in
    record { all = c.states.invariant.all; within = omega (arith, within); counted = more.0 }

pub returns : goal.returns
returns c =
    let chart = chart_of c.args.chart.now in
    let ended = c.states-test.false in
    states_counted chart c.shape.ensures.valid c.states.state c.states.count (omega (arith, ended, c.states.invariant.within, c.states.invariant.all))
    c.states.invariant.counted
