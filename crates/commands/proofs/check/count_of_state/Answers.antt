use Rattle.std.proofs.Common.{arith}
use Rattle.checked_chart.specs.Kept.{chart_of}
use Rattle.commands.proofs.CountLemmas.{node_few, seen_count}
use Rattle.commands.proofs.check.count_of_state.Goals as goal

pub overflow_cast-result : goal.overflow_cast-result
overflow_cast-result c =
    let chart = chart_of c.args.chart.now in
    let few = node_few chart c.shape.ensures.valid c.args.state c.requires in
    let count =
    seen_count chart c.args.state c.list-outer.result.now c.list-inner.result.now c.list-default.result.now c.list-outer.ensures.list c.list-inner.ensures.list
    c.list-default.ensures.list in
    omega (arith, few, count)
