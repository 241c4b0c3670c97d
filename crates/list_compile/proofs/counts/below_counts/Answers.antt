use Rattle.std.proofs.Common.{◌+◌, refl, arith}
use Rattle.flow_base.specs.declared.chart_limits.TheConstants.{STATE_LIMIT}
use Rattle.flow_base.specs.Lists.{items_of}
use Rattle.chart_code.specs.Ends.{below_count}
use Rattle.list_compile.proofs.Limits.{below_low}
use Rattle.list_compile.proofs.TableTurns.{table_more}
use Rattle.list_compile.proofs.counts.below_counts.Goals as goal

pub loop-state-preserved : goal.loop-state-preserved
loop-state-preserved c =
    let t = c.args.shape.now in
    let s = c.loop-state.state in
    table_more (below_count t) s (s + 1) STATE_LIMIT c.below_count.result (items_of c.loop-state.counts) _ refl
    c.loop-state.invariant c.below_count.ensures
    (omega (
      arith,
      c.below_count.ensures,
      below_low t c.requires.tree c.requires.few s
          (omega (arith, c.loop-state-test.true, c.len-state-end.ensures.count)),
    )) c.in_ok-push.ensures.ok
