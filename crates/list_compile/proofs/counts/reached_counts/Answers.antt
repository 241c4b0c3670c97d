use Rattle.std.proofs.Common.{◌+◌, ◌∙◌, length, refl, ap, arith}
use Rattle.flow_base.specs.declared.chart_limits.TheConstants.{JUNCTION_LIMIT}
use Rattle.flow_base.specs.Lists.{items_of}
use Rattle.checked_chart.specs.Kept.{chart_of}
use Rattle.chart_code.specs.Places.{reached_count}
use Rattle.chart_code.specs.ReachedJunctions.{reached}
use Rattle.list_compile.proofs.Limits.{reached_count_low}
use Rattle.list_compile.proofs.TableTurns.{table_more}
use Rattle.list_compile.proofs.counts.reached_counts.Goals as goal

pub overflow_cast-items : goal.overflow_cast-items
unfolding reached_count
overflow_cast-items c =
    let chart = chart_of c.args.chart.now in
    omega (
      arith,
      ap (λ xs. length xs) (c.items.ensures ∙ c.in_ok-found.ensures.reached ∙ ap (reached chart) c.list.ensures.list),
      reached_count_low chart c.shape.ensures.valid c.loop-state.state c.args.kind,
    )

pub loop-state-preserved : goal.loop-state-preserved
unfolding reached_count
loop-state-preserved c =
    let chart = chart_of c.args.chart.now in
    let s = c.loop-state.state in
    let is =
    ap (λ xs. length xs) (c.items.ensures ∙ c.in_ok-found.ensures.reached ∙ ap (reached chart) c.list.ensures.list) in
    table_more (λ s. reached_count chart s c.args.kind) s (s + 1) JUNCTION_LIMIT (length c.items.result.now)
    (items_of c.loop-state.counts) _ refl c.loop-state.invariant is
    (omega (arith, is, reached_count_low chart c.shape.ensures.valid s c.args.kind)) c.in_ok-push.ensures.ok
