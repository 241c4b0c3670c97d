use Rattle.range_rules.proofs.Runs.{run_keeps}
use Rattle.range_rules.proofs.laws.ranges_are_kept.Goals as goal

pub returns : goal.returns
returns x c cert b events moments closed can run = run_keeps c cert closed b events moments can run
