use Rattle.chart_structure.proofs.PairLemmas.{one_number_of_net, one_number_of_chart}
use Rattle.chart_structure.proofs.laws.a_chart_has_one_number_of_pairs.Goals as goal

pub returns : goal.returns
returns c = record { chart = one_number_of_chart; net = one_number_of_net }
