-- The bounds of a run.
use Rattle.std.specs.Prelude.{ℕ, ◌≤◌}
use Rattle.flow_base.specs.declared.bounds.TheConstants.{DEPTH_LIMIT, STEP_LIMIT}

-- the depth is 1 to 32, and the steps are 1 to 50,000
pub record AreBounds (depth steps : ℕ) : Type 0 where
  pub some_depth : 1 ≤ depth
  pub depth_limit : depth ≤ DEPTH_LIMIT
  pub some_steps : 1 ≤ steps
  pub steps_limit : steps ≤ STEP_LIMIT
