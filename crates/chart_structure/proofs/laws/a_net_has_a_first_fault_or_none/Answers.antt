use Rattle.chart_structure.proofs.FaultLemmas.{structure_first}
use Rattle.chart_structure.proofs.laws.a_net_has_a_first_fault_or_none.Goals as goal

pub returns : goal.returns
returns c = structure_first
