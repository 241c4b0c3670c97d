use Rattle.std.proofs.Common.{vec_len}
use Rattle.actions.specs.Trees.{expr_of}
use Rattle.sos_rules.specs.Searches.{assign}
use Rattle.range_worlds.specs.Leads.{Among, Underway}
use Rattle.range_worlds.proofs.steps.assign.Given as goal

abbrev pub invariant-loop-x : goal.invariant-loop-x
invariant-loop-x l = Underway l.setting l.fn.xs.items l.left.items (λ b n depth. assign l.datum (expr_of l.expr))
    (λ _ w. Among l.setting l.outs.items w)

abbrev pub decreases-loop-x : goal.decreases-loop-x
decreases-loop-x l = vec_len l.left
