use Rattle.range_check.proofs.CloseLemmas.{closed_stays}
use Rattle.range_check.proofs.closing.is_closed.Goals as goal

pub returns-clause-runs : goal.returns-clause-runs
returns-clause-runs c = closed_stays _ _ _ c.in_ok-closed.ensures
