use Rattle.std.proofs.lemmas.Result.{IfOk-weaker}
use Rattle.flow_base.specs.Lists.{items_of}
use Rattle.checked_chart.specs.Chart.{junction_count}
use Rattle.checked_chart.specs.Kept.{chart_of}
use Rattle.chart_code.specs.Places.{junction_parts_size}
use Rattle.list_compile.proofs.TableTurns.{table_sums}
use Rattle.list_compile.proofs.offsets.junction_parts_before.Goals as goal

pub returns : goal.returns
returns c =
    let chart = chart_of c.args.chart.now in
    IfOk-weaker c.sums_before.result _ _
    (λ sums h.
    table_sums (junction_parts_size chart) (junction_count chart) (items_of c.in_ok-sizes.sizes) (items_of sums)
    c.in_ok-sizes.ensures h) c.sums_before.ensures
