use Rattle.code_counts.proofs.Bounded.{bounded}
use Rattle.code_counts.proofs.laws.a_certificate_bounds_all_events.Goals as goal

pub returns : goal.returns
returns args c k N most ok is = bounded k N most is c ok
