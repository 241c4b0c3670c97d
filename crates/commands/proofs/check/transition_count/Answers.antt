use Rattle.std.proofs.Common.{arith}
use Rattle.checked_chart.specs.Kept.{chart_of}
use Rattle.commands.proofs.CountLemmas.{states_few}
use Rattle.commands.proofs.check.transition_count.Goals as goal

pub overflow_add-result : goal.overflow_add-result
overflow_add-result c =
    let few = states_few (chart_of c.args.chart.now) c.shape.ensures.valid in
    omega (arith, few, c.count_of_states.ensures, c.count_of_junctions.ensures)
