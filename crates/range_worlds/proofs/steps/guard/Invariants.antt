use Rattle.std.proofs.Common.{Some, vec_len}
use Rattle.actions.specs.Trees.{expr_of}
use Rattle.sos_rules.specs.Searches.{guard_holds}
use Rattle.range_worlds.specs.Leads.{Underway}
use Rattle.range_worlds.proofs.StepLemmas.{sides}
use Rattle.range_worlds.proofs.steps.guard.Given as goal

abbrev pub invariant-loop-x : goal.invariant-loop-x
invariant-loop-x l = Underway l.setting l.fn.xs.items l.left.items (λ b n depth. guard_holds (Some (expr_of l.expr)))
    (sides l.setting l.yes.items l.no.items)

abbrev pub decreases-loop-x : goal.decreases-loop-x
decreases-loop-x l = vec_len l.left
