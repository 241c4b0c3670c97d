use Rattle.chart_code.proofs.Runs.{each_does}
use Rattle.chart_code.proofs.procedure_laws.procedures_do_the_work_of_the_rules.Goals as goal

pub returns : goal.returns
returns x c k N M valid K L b height = each_does c valid b k N M K L height
