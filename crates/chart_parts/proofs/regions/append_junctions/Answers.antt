use Rattle.std.proofs.Common.{◌+◌, arith}
use Rattle.flow_base.specs.Lists.{items_of}
use Rattle.checked_chart.specs.Kept.{chart_of}
use Rattle.chart_parts.specs.Parts.{junction_parts}
use Rattle.chart_parts.proofs.Turns.{ascending_start, ascending_turn}
use Rattle.chart_parts.proofs.regions.append_junctions.Goals as goal

pub loop-junction-init : goal.loop-junction-init
loop-junction-init c = ascending_start (junction_parts (chart_of c.args.chart.now)) (items_of c.args.out.now)

pub loop-junction-preserved : goal.loop-junction-preserved
loop-junction-preserved c =
    let n = c.loop-junction.junction in
    ascending_turn (junction_parts (chart_of c.args.chart.now)) n (n + 1) (items_of c.args.out.now)
    (items_of c.loop-junction.out) _ (omega arith) c.loop-junction.invariant c.in_ok-append_junction.ensures
