use Rattle.std.proofs.lemmas.Result.{IfOk-weaker}
use Rattle.flow_base.specs.Lists.{items_of}
use Rattle.active_config.specs.Tree.{state_count}
use Rattle.checked_chart.specs.Kept.{chart_of}
use Rattle.chart_code.specs.Places.{state_parts_size}
use Rattle.list_compile.proofs.TableTurns.{table_sums}
use Rattle.list_compile.proofs.offsets.parts_before.Goals as goal

pub returns : goal.returns
returns c =
    let chart = chart_of c.args.chart.now in
    IfOk-weaker c.sums_before.result _ _
    (λ sums h.
    table_sums (state_parts_size chart) (state_count chart.tree) (items_of c.in_ok-sizes.sizes) (items_of sums)
    c.in_ok-sizes.ensures h) c.sums_before.ensures
