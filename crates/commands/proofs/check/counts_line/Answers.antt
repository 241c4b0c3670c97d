use Rattle.std.proofs.Common.{ap, ◌∙◌}
use Rattle.active_config.specs.Tree.{Tree, state_count}
use Rattle.checked_chart.specs.Kept.{chart_of}
use Rattle.commands.proofs.CountLemmas.{counts_in_pieces, counts_are}
use Rattle.commands.proofs.check.counts_line.Goals as goal

pub returns : goal.returns
returns c =
    let states = c.len-states.ensures.count ∙ ap (λ (t : Tree). state_count t) c.shape.ensures.shape in
    c.in_ok-line.ensures.ok
    ∙ counts_in_pieces c.len-states.result c.junctions-junctions.result c.transition_count-transitions.result c.args.pairs
    ∙ counts_are (chart_of c.args.chart.now) c.len-states.result c.junctions-junctions.result c.transition_count-transitions.result c.args.pairs
    states c.junctions-junctions.ensures c.transition_count-transitions.ensures
