use Rattle.std.proofs.Common.{◌-◌, arith}
use Rattle.flow_base.specs.Lists.{items_of}
use Rattle.checked_chart.specs.Kept.{chart_of}
use Rattle.chart_parts.specs.Regions.{region_parts}
use Rattle.chart_parts.proofs.Turns.{descending_turn, descending_over}
use Rattle.chart_parts.proofs.regions.append_descending.Goals as goal

pub loop-state-preserved : goal.loop-state-preserved
loop-state-preserved c =
    let n = c.loop-state.state in
    descending_turn (region_parts (chart_of c.args.chart.now) c.args.region) n (n - 1) (items_of c.loop-state.out) _ _
    (omega arith) c.loop-state.invariant c.in_ok-append_region.ensures

pub returns : goal.returns
returns c =
    descending_over (region_parts (chart_of c.args.chart.now) c.args.region) c.loop-state.state
    (items_of c.loop-state.out) _ (omega arith) c.loop-state.invariant
