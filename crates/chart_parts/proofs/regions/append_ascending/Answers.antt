use Rattle.std.proofs.Common.{◌+◌, arith}
use Rattle.flow_base.specs.Lists.{items_of}
use Rattle.checked_chart.specs.Kept.{chart_of}
use Rattle.chart_parts.specs.Regions.{region_parts}
use Rattle.chart_parts.proofs.Turns.{ascending_start, ascending_turn}
use Rattle.chart_parts.proofs.regions.append_ascending.Goals as goal

pub loop-state-init : goal.loop-state-init
loop-state-init c =
    ascending_start (region_parts (chart_of c.args.chart.now) c.args.region) (items_of c.args.out.now)

pub loop-state-preserved : goal.loop-state-preserved
loop-state-preserved c =
    let n = c.loop-state.state in
    ascending_turn (region_parts (chart_of c.args.chart.now) c.args.region) n (n + 1) (items_of c.args.out.now)
    (items_of c.loop-state.out) _ (omega arith) c.loop-state.invariant c.in_ok-append_region.ensures
