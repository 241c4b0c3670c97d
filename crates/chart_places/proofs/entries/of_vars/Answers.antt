use Rattle.chart_tree.specs.Views.{var_of}
use Rattle.chart_places.specs.Tables.{var_name}
use Rattle.chart_places.proofs.LoopLemmas.{mapped_twice-next}
use Rattle.chart_places.proofs.entries.of_vars.Goals as goal

-- one more name
pub loop-var-preserved : goal.loop-var-preserved
loop-var-preserved c =
    let so_far = c.loop-var in
    mapped_twice-next var_of var_name c.args.vars.now so_far.var-index c.var-item.result _ _ c.loop-var-test.true
    c.var-item.is so_far.invariant c.in_ok-push.ensures
