use Rattle.std.proofs.Common.{vec_len}
use Rattle.range_blocks.specs.Cells.{hearing}
use Rattle.range_worlds.specs.Leads.{Among, Underway}
use Rattle.range_blocks.proofs.sends.heard.Given as goal

abbrev pub invariant-loop-x : goal.invariant-loop-x
invariant-loop-x l = Underway l.setting l.fn.xs.items l.left.items (hearing l.setting l.state l.event)
    (λ _ w. Among l.setting l.outs.items w)

abbrev pub decreases-loop-x : goal.decreases-loop-x
decreases-loop-x l = vec_len l.left
