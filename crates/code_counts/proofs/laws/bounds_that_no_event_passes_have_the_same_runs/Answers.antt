use Rattle.code_counts.proofs.SameRuns.{same_runs}
use Rattle.code_counts.proofs.laws.bounds_that_no_event_passes_have_the_same_runs.Goals as goal

pub returns : goal.returns
returns args k b b' steps depth events moments = same_runs k k.names b b' steps depth events moments
