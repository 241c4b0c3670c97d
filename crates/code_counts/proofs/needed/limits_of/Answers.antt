use Rattle.code_counts.proofs.SameRuns.{is_limit}
use Rattle.code_counts.proofs.needed.limits_of.Goals as goal

-- both bounds serve in place of the given ones
pub returns : goal.returns
returns c =
    is_limit _ _ _ c.in_ok-steps.ensures c.in_ok-depth.ensures c.in_ok-outputs.ensures
