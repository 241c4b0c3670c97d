-- The bounds that a chart gives.
use Rattle.std.proofs.Common.{◌≡◌, ◌∙◌, ◌≤◌, List, Some, sym, ap, subst, arith}
use Rattle.std.specs.List.{AllByRecursion}
use Rattle.flow_base.specs.declared.bounds.Bounds.{Bounds}
use Rattle.actions.specs.Runs.{CanBeGiven, EventWithInputs, Moment}
use Rattle.checked_chart.specs.Chart.{Chart}
use Rattle.sos_rules.specs.Reactions.{RulesRun}
use Rattle.bound_prove.specs.declared.need.Need.{Need}
use Rattle.bound_prove.specs.Roots.{IsWithin, NoOverrun}
use Rattle.bound_prove.specs.Searches.{IsNeedOf}
use Rattle.bound_prove.proofs.Overruns.{run_fine}
use Rattle.bound_prove.proofs.Settling.{need_is_one}
use Rattle.command_words.specs.Commands.{RunBounds}
use Rattle.command_words.specs.Seen.{bounds_seen}
use Rattle.c_program.specs.Bounds.{IsGiven, bounds_given}

-- under the bounds that a chart with a need gives, no bound ends a run
pub given_fine : (c : Chart) (n : Need) (b : Bounds) (events : List EventWithInputs) (moments : List Moment)
    → IsNeedOf c (Some n) → IsGiven c b → AllByRecursion (CanBeGiven c.names) events → RulesRun c b events moments
    → AllByRecursion (λ (m : Moment). NoOverrun m.fault) moments
given_fine c n b events moments need given can run =
    let same : bounds_seen b ≡ bounds_given (Some n) =
    given.bounds_are ∙ ap bounds_given (need_is_one c given.need (Some n) given.is_need need) in
    let deep : n.depth ≤ b.depth = omega (arith, ap (λ (r : RunBounds). r.depth) same) in
    let long : n.steps ≤ b.steps = omega (arith, ap (λ (r : RunBounds). r.steps) same) in
    run_fine c need.0 b need.1 (subst IsWithin (sym need.2) need.3)
    (subst (λ (m : Need). m.depth ≤ b.depth) (sym need.2) deep)
    (subst (λ (m : Need). m.steps ≤ b.steps) (sym need.2) long)
    events moments can run
