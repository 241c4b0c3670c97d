use Rattle.chart_structure.proofs.ChartLemmas.{structure_of, few_pairs}
use Rattle.chart_structure.proofs.laws.charts_of_valid_nets_have_structure.Goals as goal

pub returns : goal.returns
returns c = record {
  structure = structure_of;
  pairs = λ chart count v. few_pairs chart v count;
}
