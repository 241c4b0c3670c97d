use Rattle.std.proofs.Common.{vec_len}
use Rattle.actions.specs.Work.{change}
use Rattle.range_worlds.specs.Leads.{Among, Underway, chart_in}
use Rattle.range_worlds.specs.Splits.{turn}
use Rattle.range_worlds.proofs.worlds.changed.Given as goal

abbrev pub invariant-loop-x : goal.invariant-loop-x
invariant-loop-x l = Underway l.setting l.fn.xs.items l.left.items (λ b n depth. change
    (turn (chart_in l.setting) l.change))
    (λ _ w. Among l.setting l.outs.items w)

abbrev pub decreases-loop-x : goal.decreases-loop-x
decreases-loop-x l = vec_len l.left
