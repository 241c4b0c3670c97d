use Rattle.sos_rules.proofs.Runs.{one_run}
use Rattle.sos_rules.proofs.laws.one_run.Goals as goal

pub returns : goal.returns
returns x c b events v all = one_run c b v events all
