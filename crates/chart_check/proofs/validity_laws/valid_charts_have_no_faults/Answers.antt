use Rattle.chart_check.proofs.FaultlessLemmas.{no_type_fault}
use Rattle.chart_check.proofs.ConverseLemmas.{no_structure_fault, few_pairs}
use Rattle.chart_check.proofs.validity_laws.valid_charts_have_no_faults.Goals as goal

pub returns : goal.returns
returns c = record {
  types = no_type_fault;
  structure = λ r f res words v. no_structure_fault r res words v f;
  pairs = λ r f res words v. few_pairs r res words v f;
}
