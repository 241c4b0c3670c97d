use Rattle.std.proofs.Common.{◌≡◌, ◌+◌, ◌<◌, ◌≤◌, length}
use Rattle.active_config.specs.Tree.{state_count, ancestors}
use Rattle.code_language.proofs.tables.depth.Given as goal

-- where the walk stands is a state, as far up as was counted
abbrev pub invariant-loop-parent : goal.invariant-loop-parent
invariant-loop-parent l =
    (l.at < state_count l.shape) × (l.depth + l.at ≤ l.state)
    × (l.depth + length (ancestors l.shape l.at) ≡ length (ancestors l.shape l.state))

abbrev pub decreases-loop-parent : goal.decreases-loop-parent
decreases-loop-parent l = l.at
