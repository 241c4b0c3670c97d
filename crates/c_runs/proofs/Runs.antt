-- The C of a chart runs as the chart.
use Rattle.std.proofs.Common.{◌≡◌, ◌≤◌, ◌+◌, ℕ, List, length, Option, Some, None, refl, sym, ap, ◌∙◌}
use Rattle.std.proofs.Common.{subst, arith}
use Rattle.flow_base.specs.declared.bounds.Bounds.{Bounds}
use Rattle.flow_base.specs.declared.fault.Fault.{Fault}
use Rattle.flow_base.specs.declared.fault.Fault.TheVariants as faults
use Rattle.active_config.specs.Tree.{Tree, state_count}
use Rattle.actions.specs.Names.{Names}
use Rattle.actions.specs.declared.expr.Value.{Value}
use Rattle.actions.specs.Runs.{EventWithInputs, Moment, AreInputValues}
use Rattle.checked_chart.specs.Chart.{Chart}
use Rattle.checked_chart.specs.Valid.{IsValid}
use Rattle.sos_rules.specs.Reactions.{RulesRun}
use Rattle.code_language.specs.Code.{Code}
use Rattle.code_language.specs.Instrs.{Unless, Result, Ret}
use Rattle.code_language.specs.Reactions.{Starts, Reacts, CodeRun}
use Rattle.code_counts.proofs.Room.{start_few, reaction_few}
use Rattle.code_copies.specs.SameRuns.{HasSameRuns}
use Rattle.chart_code.specs.Bodies.{code_of_chart}
use Rattle.chart_code.proofs.ListResults.{results_below}
use Rattle.c_functions.specs.Writer.{plans_of}
use Rattle.c_functions.proofs.WriterLemmas.{plans_are}
use Rattle.c_functions.specs.Failing.{AfterIsRight}
use Rattle.c_functions.specs.Plans.{Tests, all_tests, bad}
use Rattle.c_functions.specs.Moments.{HasSmallResults, MayEnd, MayEndIn}
use Rattle.c_functions.specs.Starts.{AllGiven}
use Rattle.c_functions.specs.Inputs.{with_inputs}
use Rattle.c_functions.proofs.StartsRuns.{runs-on, refuses}
use Rattle.c_runs.specs.Claims.{FitsChart, RunsAsRules, Serves, with_first}
use Rattle.c_runs.proofs.Given.{code_runs-with}
use Rattle.c_runs.proofs.EachMoment.{run_ends}

-- the code of a chart has the chart's tree and names
tree-same : (c : Chart) → (code_of_chart c).tree ≡ c.tree
unfolding code_of_chart
tree-same c = refl

names-same : (c : Chart) → (code_of_chart c).names ≡ c.names
unfolding code_of_chart
names-same c = refl

-- the results of code that keeps those of the chart's code are few
small-results : (c : Chart) (k : Code) → IsValid c → FitsChart c k → HasSmallResults k
unfolding code_of_chart
small-results c k valid fits =
    let few : 3 + state_count c.tree ≤ bad = omega (arith, valid.limits.states) in
    record {
      returned = λ p i r e.
          let w = fits.results.returned p i r e in
          results_below c valid bad few w.proc w.place (Ret r) w.stands;
      tested = λ p i j r e.
          let w = fits.results.tested p i j r e in
          results_below c valid bad few w.1.proc w.1.place (Unless w.0 (Result r)) w.1.stands;
    }

-- code with the same runs fits the chart
pub same-fits : (c : Chart) (k : Code) → HasSameRuns (code_of_chart c) k → FitsChart c k
same-fits c k same = record {
  well_formed = same.well_formed;
  tree = same.tree ∙ tree-same c;
  names = same.names ∙ names-same c;
  results = same.results;
}

-- the C of code that fits the chart, with right tests, limits and room that serve it, runs as the rules say
pub runs-as-rules : (c : Chart) (b : Bounds) (k : Code) (T : Tests) (limits : Bounds) (room : ℕ) → IsValid c
    → FitsChart c k → Serves c b k T limits room → AfterIsRight T k → RunsAsRules c b k T limits room (plans_of k)
runs-as-rules c b k T limits room valid fits serves right = record {
  runs = λ int s given events moments most shape values all run.
      runs-on k T limits room (plans_of k) int fits.well_formed most
      (ap (λ (n : Names). length n.states) fits.names ∙ valid.state_names
      ∙ ap (λ (t : Tree). state_count t) (sym fits.tree))
      (small-results c k valid fits) right (plans_are k fits.well_formed) s given events moments shape
      (subst (λ (n : Names). AreInputValues n 0 given) (sym fits.names) values)
      (subst (λ (n : Names). AllGiven n events) (sym fits.names) all) (serves.runs given events moments values run)
      (serves.ends given events moments values all run);
  refuses = λ int most. refuses k T limits room (plans_of k) int fits.well_formed most;
}

-- where all faults are tested a run may end in any way
may-end : (x : Option Fault) → MayEnd all_tests x
unfolding MayEnd
may-end None = tt
may-end (Some faults.Depth) = refl
may-end (Some faults.Steps) = refl
may-end (Some (faults.Overflow v)) = tt
may-end (Some faults.Zero) = tt

-- and its outputs are no more than its steps, so all tests serve, with the bounds as limits
pub all-serve : (c : Chart) (b : Bounds) (k : Code) → IsValid c → HasSameRuns (code_of_chart c) k
    → Serves c b k all_tests b b.steps
all-serve c b k valid same = record {
  runs = runs;
  ends = λ given events moments values all run.
      let k' : Code = record k { names = with_inputs given k.names } in
      run_ends (MayEndIn all_tests b.steps) (Starts k' b) (Reacts k' b)
      (λ m starts. record { fault = may-end m.fault; outputs = start_few k' b m.world m.fault starts })
      (λ w e m reacts. record { fault = may-end m.fault; outputs = reaction_few k' b w m.world e m.fault reacts })
      events moments (runs given events moments values run);
}
  where
    runs : (given : List (Option Value)) (events : List EventWithInputs) (moments : List Moment)
        → AreInputValues c.names 0 given → RulesRun (with_first given c) b events moments
        → CodeRun (record k { names = with_inputs given k.names }) b events moments
    runs given events moments values run =
        subst (λ (n : Names). CodeRun (record k { names = with_inputs given n }) b events moments) (sym same.names)
        ((same.runs b (with_inputs given (code_of_chart c).names) events moments).0
        ((code_runs-with given c values valid b events moments).0 run))
