-- Code that runs as a chart overruns no bounds that cover the need of the chart.
use Rattle.std.proofs.Common.{◌≤◌, List, Some, sym, subst}
use Rattle.std.specs.List.{AllByRecursion}
use Rattle.flow_base.specs.declared.bounds.Bounds.{Bounds}
use Rattle.actions.specs.Runs.{CanBeGiven, EventWithInputs, Moment}
use Rattle.checked_chart.specs.Chart.{Chart}
use Rattle.bound_prove.specs.declared.need.Need.{Need}
use Rattle.bound_prove.specs.Roots.{IsWithin, NoOverrun}
use Rattle.bound_prove.specs.Searches.{IsNeedOf}
use Rattle.bound_prove.proofs.Overruns.{run_fine}
use Rattle.code_language.specs.Code.{Code}
use Rattle.code_language.specs.Reactions.{CodeRun}
use Rattle.chart_compile.specs.Compiled.{RunsAs}

-- no moment of such a run is ended by a bound
pub code_fine : (c : Chart) (k : Code) (n : Need) (b : Bounds) (events : List EventWithInputs) (moments : List Moment)
    → RunsAs c k → IsNeedOf c (Some n) → n.depth ≤ b.depth → n.steps ≤ b.steps
    → AllByRecursion (CanBeGiven c.names) events → CodeRun k b events moments
    → AllByRecursion (λ (m : Moment). NoOverrun m.fault) moments
code_fine c k n b events moments same need deep long can run =
    run_fine c need.0 b need.1 (subst IsWithin (sym need.2) need.3)
    (subst (λ (m : Need). m.depth ≤ b.depth) (sym need.2) deep) (subst (λ (m : Need). m.steps ≤ b.steps) (sym need.2) long)
    events moments can ((same b events moments).1 run)
