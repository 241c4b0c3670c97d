use Rattle.std.proofs.Common.{ℕ, ◌<◌, ◌≤◌, length}
use Rattle.flow_base.specs.declared.chart_limits.TheConstants.{STATE_DEPTH_LIMIT}
use Rattle.active_config.specs.Tree.{ancestors}
use Rattle.code_language.proofs.tables.is_shallow.Given as goal

-- no state so far is too deep
abbrev pub invariant-loop-state : goal.invariant-loop-state
invariant-loop-state l = (s : ℕ) → s < l.state → length (ancestors l.shape s) ≤ STATE_DEPTH_LIMIT
